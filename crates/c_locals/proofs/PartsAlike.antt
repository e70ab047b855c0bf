-- Two parts do alike where the words of names are alike: what holds of two parts holds of what is made of them. Where the
-- first is stuck, nothing is said of the second.
use Rattle.std.proofs.Common.{◌≡◌, ℕ, zero, suc, Bool, true, false, if◌then◌else◌, List, [], ◌∷◌, Option, Some, None, refl, sym, ap, subst}
use Rattle.dream_words.specs.declared.outcome.Outcome.{Outcome}
use Rattle.run_parts.specs.Parts.{Exit, Past, Broke, Over, Stuck, Run, Ends, Goes, skip, leave_loop, goes_on, on, after, seq, decide, first_arm, caught, has, group_of, given, switch, round, turn, rounds, repeat}
use Rattle.run_parts.specs.Steps.{Next, Halt, Jam, done, simply}
use Rattle.run_parts.specs.World.{Names, World}
use Rattle.run_parts.specs.Effects.{Doing}
use Rattle.c_syntax.specs.Run.{Part, Test}

-- a world with other words for the names
abbrev pub in_names : World → Names → World
in_names w v = record w { names = v }

-- which words are alike
module _ (A : Names → Names → Type 0) where
  -- the second run is the first, but for words that are alike
  abbrev pub RunAlike : Run World Outcome → Run World Outcome → Type 0
  RunAlike (Ends (Past w) n) r = (v : Names) × (r ≡ Ends (Past (in_names w v)) n) × A w.names v
  RunAlike (Ends (Broke w) n) r = (v : Names) × (r ≡ Ends (Broke (in_names w v)) n) × A w.names v
  RunAlike (Ends (Over o) n) r = r ≡ Ends (Over o) n
  RunAlike (Ends Stuck n) r = Unit {0}
  RunAlike (Goes w) r = (v : Names) × (r ≡ Goes (in_names w v))

  abbrev pub DidAlike : Doing → Doing → Type 0
  DidAlike (Next w) d = (v : Names) × (d ≡ Next (in_names w v)) × A w.names v
  DidAlike (Halt o) d = d ≡ Halt o
  DidAlike Jam d = Unit {0}

  pub record PartAlike (a b : Part) : Type 0 where
    pub by : (n : ℕ) (w : World) (v : Names) → A w.names v → RunAlike (a n w) (b n (in_names w v))

  abbrev pub TestAlike : Test → Test → Type 0
  TestAlike t u = (w : World) (v : Names) → A w.names v → u (in_names w v) ≡ t w

  -- ---- one after another

  pub skip_alike : PartAlike skip skip
  skip_alike = record { by = λ n w v s. (v, refl, s) }

  pub leave_alike : PartAlike leave_loop leave_loop
  leave_alike = record { by = λ n w v s. (v, refl, s) }

  goes_alike : PartAlike goes_on goes_on
  goes_alike = record { by = λ n w v s. (v, refl) }

  abbrev Follows : Type 0
  Follows = Exit World Outcome → ℕ → Run World Outcome

  -- what follows two runs
  record FollowAlike (h k : Follows) : Type 0 where
    past : (n : ℕ) (w : World) (v : Names) → A w.names v → RunAlike (h (Past w) n) (k (Past (in_names w v)) n)
    broke : (n : ℕ) (w : World) (v : Names) → A w.names v → RunAlike (h (Broke w) n) (k (Broke (in_names w v)) n)
    over : (n : ℕ) (o : Outcome) → RunAlike (h (Over o) n) (k (Over o) n)
    stuck : (n : ℕ) (r : Run World Outcome) → RunAlike (h Stuck n) r

  on_alike : (h k : Follows) → FollowAlike h k → (r q : Run World Outcome) → RunAlike r q → RunAlike (on r h) (on q k)
  on_alike h k f (Ends (Past w) n) q e = subst (λ x. RunAlike (h (Past w) n) (on x k)) (sym e.1) (f.past n w e.0 e.2)
  on_alike h k f (Ends (Broke w) n) q e = subst (λ x. RunAlike (h (Broke w) n) (on x k)) (sym e.1) (f.broke n w e.0 e.2)
  on_alike h k f (Ends (Over o) n) q e = subst (λ x. RunAlike (h (Over o) n) (on x k)) (sym e) (f.over n o)
  on_alike h k f (Ends Stuck n) q e = f.stuck n (on q k)
  on_alike h k f (Goes w) q e = (e.0, ap (λ x. on x k) e.1)

  after_alike : (b c : Part) → PartAlike b c → FollowAlike (after b) (after c)
  after_alike b c e = record { past = λ n w v s. e.by n w v s; broke = λ n w v s. (v, refl, s); over = λ n o. refl; stuck = λ n r. tt }

  pub seq_alike : (a a' b b' : Part) → PartAlike a a' → PartAlike b b' → PartAlike (seq a b) (seq a' b')
  seq_alike a a' b b' ea eb = record { by = λ n w v s. on_alike (after b) (after b') (after_alike b b' eb) (a n w) (a' n (in_names w v)) (ea.by n w v s) }

  -- ---- one of several

  decide_alike : (o : Option Bool) (a a' b b' : Part) → PartAlike a a' → PartAlike b b' → (n : ℕ) (w : World) (v : Names) → A w.names v → RunAlike (decide o a b n w) (decide o a' b' n (in_names w v))
  decide_alike None a a' b b' ea eb n w v s = tt
  decide_alike (Some true) a a' b b' ea eb n w v s = ea.by n w v s
  decide_alike (Some false) a a' b b' ea eb n w v s = eb.by n w v s

  -- by two tests that are alike
  decided : (o p : Option Bool) (a a' b b' : Part) → p ≡ o → PartAlike a a' → PartAlike b b' → (n : ℕ) (w : World) (v : Names) → A w.names v → RunAlike (decide o a b n w) (decide p a' b' n (in_names w v))
  decided o p a a' b b' e ea eb n w v s = subst (λ x. RunAlike (decide o a b n w) (decide x a' b' n (in_names w v))) (sym e) (decide_alike o a a' b b' ea eb n w v s)

  pub data ArmsAlike : List (Test × Part) → List (Test × Part) → Type 0 where
    no_arm : ArmsAlike [] []
    arm_more : (g h : Test × Part) (gs hs : List (Test × Part)) → TestAlike g.0 h.0 → PartAlike g.1 h.1 → ArmsAlike gs hs → ArmsAlike (g ∷ gs) (h ∷ hs)

  pub arms_alike : (gs hs : List (Test × Part)) (last last' : Part) → ArmsAlike gs hs → PartAlike last last' → PartAlike (first_arm gs last) (first_arm hs last')
  arms_alike gs hs last last' no_arm e = e
  arms_alike gs hs last last' (arm_more g h gs' hs' et ea es) e = record {
    by = λ n w v s. decided (g.0 w) (h.0 (in_names w v)) g.1 h.1 (first_arm gs' last) (first_arm hs' last') (et w v s) ea (arms_alike gs' hs' last last' es e) n w v s;
  }

  caught_alike : FollowAlike caught caught
  caught_alike = record { past = λ n w v s. (v, refl, s); broke = λ n w v s. (v, refl, s); over = λ n o. refl; stuck = λ n r. tt }

  pub data GroupsAlike : List (List ℕ × Part) → List (List ℕ × Part) → Type 0 where
    no_group : GroupsAlike [] []
    group_more : (g h : List ℕ × Part) (gs hs : List (List ℕ × Part)) → g.0 ≡ h.0 → PartAlike g.1 h.1 → GroupsAlike gs hs → GroupsAlike (g ∷ gs) (h ∷ hs)

  if_alike : (b : Bool) (r s r' s' : Run World Outcome) → RunAlike r r' → RunAlike s s' → RunAlike (if b then r else s) (if b then r' else s')
  if_alike true r s r' s' e g = e
  if_alike false r s r' s' e g = g

  group_alike : (gs hs : List (List ℕ × Part)) (last last' : Part) → GroupsAlike gs hs → PartAlike last last' → (x n : ℕ) (w : World) (v : Names) → A w.names v
      → RunAlike (group_of gs last x n w) (group_of hs last' x n (in_names w v))
  group_alike gs hs last last' no_group e x n w v s = e.by n w v s
  group_alike gs hs last last' (group_more g h gs' hs' same ea es) e x n w v s =
      subst (λ vs. RunAlike (if has g.0 x then g.1 n w else group_of gs' last x n w) (if has vs x then h.1 n (in_names w v) else group_of hs' last' x n (in_names w v))) same
      (if_alike (has g.0 x) (g.1 n w) (group_of gs' last x n w) (h.1 n (in_names w v)) (group_of hs' last' x n (in_names w v)) (ea.by n w v s) (group_alike gs' hs' last last' es e x n w v s))

  given_alike : (o : Option ℕ) (gs hs : List (List ℕ × Part)) (last last' : Part) → GroupsAlike gs hs → PartAlike last last' → (n : ℕ) (w : World) (v : Names) → A w.names v
      → RunAlike (given o (group_of gs last) n w) (given o (group_of hs last') n (in_names w v))
  given_alike None gs hs last last' es e n w v s = tt
  given_alike (Some x) gs hs last last' es e n w v s = group_alike gs hs last last' es e x n w v s

  pub switch_alike : (f g : World → Option ℕ) (gs hs : List (List ℕ × Part)) (last last' : Part) → ((w : World) (v : Names) → A w.names v → g (in_names w v) ≡ f w)
      → GroupsAlike gs hs → PartAlike last last' → PartAlike (switch f gs last) (switch g hs last')
  switch_alike f g gs hs last last' ef es e = record {
    by = λ n w v s.
        on_alike caught caught caught_alike (given (f w) (group_of gs last) n w) (given (g (in_names w v)) (group_of hs last') n (in_names w v))
        (subst (λ o. RunAlike (given (f w) (group_of gs last) n w) (given o (group_of hs last') n (in_names w v))) (sym (ef w v s)) (given_alike (f w) gs hs last last' es e n w v s));
  }

  -- ---- loops

  round_alike : (t u : Test) (a b : Part) → TestAlike t u → PartAlike a b → FollowAlike (round t a) (round u b)
  round_alike t u a b et ea = record {
    past = λ n w v s. decided (t w) (u (in_names w v)) a b skip skip (et w v s) ea skip_alike n w v s;
    broke = λ n w v s. (v, refl, s);
    over = λ n o. refl;
    stuck = λ n r. tt;
  }

  turn_alike : (t u : Test) (a a' b b' : Part) → TestAlike t u → PartAlike a a' → PartAlike b b' → (n : ℕ) (w : World) (v : Names) → A w.names v
      → RunAlike (turn a t b n w) (turn a' u b' n (in_names w v))
  turn_alike t u a a' b b' et ea eb zero w v s = (v, refl)
  turn_alike t u a a' b b' et ea eb (suc n) w v s = on_alike (round t b) (round u b') (round_alike t u b b' et eb) (a n w) (a' n (in_names w v)) (ea.by n w v s)

  rounds_alike : (g : ℕ) (p q : Test) (a a' : Part) (t u : Test) → TestAlike p q → PartAlike a a' → TestAlike t u → (n : ℕ) (w : World) (v : Names) → A w.names v
      → RunAlike (rounds g p a t n w) (rounds g q a' u n (in_names w v))
  rounds_alike zero p q a a' t u ep ea et n w v s = decided (p w) (q (in_names w v)) goes_on goes_on skip skip (ep w v s) goes_alike skip_alike n w v s
  rounds_alike (suc g) p q a a' t u ep ea et n w v s =
      decided (p w) (q (in_names w v)) (turn a t (rounds g p a t)) (turn a' u (rounds g q a' u)) skip skip (ep w v s)
      (record { by = turn_alike t u a a' (rounds g p a t) (rounds g q a' u) et ea (record { by = rounds_alike g p q a a' t u ep ea et }) })
      skip_alike n w v s

  pub repeat_alike : (p q : Test) (a a' : Part) (t u : Test) → TestAlike p q → PartAlike a a' → TestAlike t u → PartAlike (repeat p a t) (repeat q a' u)
  repeat_alike p q a a' t u ep ea et = record { by = λ n w v s. rounds_alike n p q a a' t u ep ea et n w v s }

  -- ---- simple statements

  done_alike : (d e : Doing) (n : ℕ) → DidAlike d e → RunAlike (done d n) (done e n)
  done_alike (Next w) e n h = (h.0, ap (λ x. done x n) h.1, h.2)
  done_alike (Halt o) e n h = ap (λ x. done x n) h
  done_alike Jam e n h = tt

  pub simply_alike : (f g : World → Doing) → ((w : World) (v : Names) → A w.names v → DidAlike (f w) (g (in_names w v))) → PartAlike (simply f) (simply g)
  simply_alike f g h = record { by = λ n w v s. done_alike (f w) (g (in_names w v)) n (h w v s) }
