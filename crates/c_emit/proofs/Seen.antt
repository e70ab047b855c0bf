-- Two parts do the same where worlds are read through a function: what holds of two parts holds of what is made of them.
use Rattle.std.proofs.Common.{◌≡◌, ℕ, zero, suc, Bool, true, false, if◌then◌else◌, List, [], ◌∷◌, Option, Some, None, refl, ap, ◌∙◌}
use Rattle.dream_words.specs.declared.outcome.Outcome.{Outcome}
use Rattle.run_parts.specs.Parts.{Exit, Past, Broke, Over, Stuck, Run, Ends, Goes, skip, leave_loop, goes_on, on, after, seq, decide, choose, caught, has, group_of, given, switch, round, turn, rounds, repeat}
use Rattle.run_parts.specs.Steps.{Next, Halt, Jam, having, done, simply, then_do}
use Rattle.run_parts.specs.World.{World}
use Rattle.run_parts.specs.Effects.{Doing}
use Rattle.c_syntax.specs.Run.{Part, Test}

-- an exit, a run and a doing, with their worlds read through a function
abbrev pub seen_exit : (World → World) → Exit World Outcome → Exit World Outcome
seen_exit f (Past w) = Past (f w)
seen_exit f (Broke w) = Broke (f w)
seen_exit f (Over o) = Over o
seen_exit f Stuck = Stuck

abbrev pub seen : (World → World) → Run World Outcome → Run World Outcome
seen f (Ends x m) = Ends (seen_exit f x) m
seen f (Goes w) = Goes (f w)

abbrev pub seen_did : (World → World) → Doing → Doing
seen_did f (Next w) = Next (f w)
seen_did f (Halt o) = Halt o
seen_did f Jam = Jam

-- the first part does in each world what the second does in the world as it is read
pub record Same (f : World → World) (a b : Part) : Type 0 where
  pub by : (m : ℕ) (w : World) → seen f (a m w) ≡ b m (f w)

module _ (f : World → World) where
  -- ---- one after another

  pub skip_same : Same f skip skip
  skip_same = record { by = λ m w. refl }

  pub leave_same : Same f leave_loop leave_loop
  leave_same = record { by = λ m w. refl }

  -- what follows a run
  on_seen : (h k : Exit World Outcome → ℕ → Run World Outcome) → ((x : Exit World Outcome) (n : ℕ) → seen f (h x n) ≡ k (seen_exit f x) n)
      → (r : Run World Outcome) → seen f (on r h) ≡ on (seen f r) k
  on_seen h k e (Ends x n) = e x n
  on_seen h k e (Goes w) = refl

  after_seen : (b c : Part) → Same f b c → (x : Exit World Outcome) (n : ℕ) → seen f (after b x n) ≡ after c (seen_exit f x) n
  after_seen b c e (Past w) n = e.by n w
  after_seen b c e (Broke w) n = refl
  after_seen b c e (Over o) n = refl
  after_seen b c e Stuck n = refl

  pub seq_same : (a a' b b' : Part) → Same f a a' → Same f b b' → Same f (seq a b) (seq a' b')
  seq_same a a' b b' ea eb = record { by = λ m w. on_seen (after b) (after b') (after_seen b b' eb) (a m w) ∙ ap (λ r. on r (after b')) (ea.by m w) }

  -- ---- one of several

  decide_seen : (o : Option Bool) (a a' b b' : Part) → Same f a a' → Same f b b' → (m : ℕ) (w : World) → seen f (decide o a b m w) ≡ decide o a' b' m (f w)
  decide_seen None a a' b b' ea eb m w = refl
  decide_seen (Some true) a a' b b' ea eb m w = ea.by m w
  decide_seen (Some false) a a' b b' ea eb m w = eb.by m w

  pub choose_same : (t u : Test) (a a' b b' : Part) → ((w : World) → t w ≡ u (f w)) → Same f a a' → Same f b b' → Same f (choose t a b) (choose u a' b')
  choose_same t u a a' b b' e ea eb = record { by = λ m w. decide_seen (t w) a a' b b' ea eb m w ∙ ap (λ o. decide o a' b' m (f w)) (e w) }

  caught_seen : (x : Exit World Outcome) (n : ℕ) → seen f (caught x n) ≡ caught (seen_exit f x) n
  caught_seen (Past w) n = refl
  caught_seen (Broke w) n = refl
  caught_seen (Over o) n = refl
  caught_seen Stuck n = refl

  if_seen : (b : Bool) (r s r' s' : Run World Outcome) → seen f r ≡ r' → seen f s ≡ s' → seen f (if b then r else s) ≡ (if b then r' else s')
  if_seen true r s r' s' e g = e
  if_seen false r s r' s' e g = g

  -- groups with the same values and bodies that do the same
  pub data SameGroups : List (List ℕ × Part) → List (List ℕ × Part) → Type 0 where
    none : SameGroups [] []
    more : (g h : List ℕ × Part) (gs hs : List (List ℕ × Part)) → g.0 ≡ h.0 → Same f g.1 h.1 → SameGroups gs hs → SameGroups (g ∷ gs) (h ∷ hs)

  group_seen : (gs hs : List (List ℕ × Part)) (last last' : Part) → SameGroups gs hs → Same f last last' → (x m : ℕ) (w : World)
      → seen f (group_of gs last x m w) ≡ group_of hs last' x m (f w)
  group_seen gs hs last last' none e x m w = e.by m w
  group_seen gs hs last last' (more g h gs' hs' same ea es) e x m w =
      if_seen (has g.0 x) (g.1 m w) (group_of gs' last x m w) (h.1 m (f w)) (group_of hs' last' x m (f w)) (ea.by m w) (group_seen gs' hs' last last' es e x m w)
      ∙ ap (λ vs. if has vs x then h.1 m (f w) else group_of hs' last' x m (f w)) same

  given_seen : (o : Option ℕ) (gs hs : List (List ℕ × Part)) (last last' : Part) → SameGroups gs hs → Same f last last' → (m : ℕ) (w : World)
      → seen f (given o (group_of gs last) m w) ≡ given o (group_of hs last') m (f w)
  given_seen None gs hs last last' es e m w = refl
  given_seen (Some x) gs hs last last' es e m w = group_seen gs hs last last' es e x m w

  pub switch_same : (u v : World → Option ℕ) (gs hs : List (List ℕ × Part)) (last last' : Part) → ((w : World) → u w ≡ v (f w)) → SameGroups gs hs → Same f last last'
      → Same f (switch u gs last) (switch v hs last')
  switch_same u v gs hs last last' eu es e = record {
    by = λ m w.
        on_seen caught caught caught_seen (given (u w) (group_of gs last) m w)
        ∙ ap (λ r. on r caught) (given_seen (u w) gs hs last last' es e m w ∙ ap (λ o. given o (group_of hs last') m (f w)) (eu w));
  }

  -- ---- loops

  goes_same : Same f goes_on goes_on
  goes_same = record { by = λ m w. refl }

  round_seen : (t u : Test) (a b : Part) → ((w : World) → t w ≡ u (f w)) → Same f a b → (x : Exit World Outcome) (n : ℕ)
      → seen f (round t a x n) ≡ round u b (seen_exit f x) n
  round_seen t u a b e ea (Past w) n = decide_seen (t w) a b skip skip ea skip_same n w ∙ ap (λ o. decide o b skip n (f w)) (e w)
  round_seen t u a b e ea (Broke w) n = refl
  round_seen t u a b e ea (Over o) n = refl
  round_seen t u a b e ea Stuck n = refl

  turn_seen : (t u : Test) (a a' b b' : Part) → ((w : World) → t w ≡ u (f w)) → Same f a a' → Same f b b' → (m : ℕ) (w : World)
      → seen f (turn a t b m w) ≡ turn a' u b' m (f w)
  turn_seen t u a a' b b' e ea eb zero w = refl
  turn_seen t u a a' b b' e ea eb (suc m) w = on_seen (round t b) (round u b') (round_seen t u b b' e eb) (a m w) ∙ ap (λ r. on r (round u b')) (ea.by m w)

  rounds_seen : (g : ℕ) (p q : Test) (a a' : Part) (t u : Test) → ((w : World) → p w ≡ q (f w)) → Same f a a' → ((w : World) → t w ≡ u (f w)) → (m : ℕ) (w : World)
      → seen f (rounds g p a t m w) ≡ rounds g q a' u m (f w)
  rounds_seen zero p q a a' t u ep ea et m w = decide_seen (p w) goes_on goes_on skip skip goes_same skip_same m w ∙ ap (λ o. decide o goes_on skip m (f w)) (ep w)
  rounds_seen (suc g) p q a a' t u ep ea et m w =
      decide_seen (p w) (turn a t (rounds g p a t)) (turn a' u (rounds g q a' u)) skip skip
      (record { by = turn_seen t u a a' (rounds g p a t) (rounds g q a' u) et ea (record { by = rounds_seen g p q a a' t u ep ea et }) })
      skip_same m w
      ∙ ap (λ o. decide o (turn a' u (rounds g q a' u)) skip m (f w)) (ep w)

  pub repeat_same : (p q : Test) (a a' : Part) (t u : Test) → ((w : World) → p w ≡ q (f w)) → Same f a a' → ((w : World) → t w ≡ u (f w)) → Same f (repeat p a t) (repeat q a' u)
  repeat_same p q a a' t u ep ea et = record { by = λ m w. rounds_seen m p q a a' t u ep ea et m w }

  -- ---- simple statements

  pub done_seen : (d : Doing) (m : ℕ) → seen f (done d m) ≡ done (seen_did f d) m
  done_seen (Next w) m = refl
  done_seen (Halt o) m = refl
  done_seen Jam m = refl

  pub simply_same : (g h : World → Doing) → ((w : World) → seen_did f (g w) ≡ h (f w)) → Same f (simply g) (simply h)
  simply_same g h e = record { by = λ m w. done_seen (g w) m ∙ ap (λ d. done d m) (e w) }

  -- what follows a doing
  pub then_seen : (d : Doing) (g h : World → Doing) → ((w : World) → seen_did f (g w) ≡ h (f w)) → seen_did f (then_do d g) ≡ then_do (seen_did f d) h
  then_seen (Next w) g h e = e w
  then_seen (Halt o) g h e = refl
  then_seen Jam g h e = refl

  -- what is done with a word
  pub having_seen : (o : Option ℕ) (g h : ℕ → Doing) → ((x : ℕ) → seen_did f (g x) ≡ h x) → seen_did f (having o g) ≡ having o h
  having_seen None g h e = refl
  having_seen (Some x) g h e = e x

-- a doing and then another, as parts
pub then_is_seq : (g h : World → Doing) (m : ℕ) (w : World) → done (then_do (g w) h) m ≡ seq (simply g) (simply h) m w
then_is_seq g h m w = by (g w)
  where
    by : (d : Doing) → done (then_do d h) m ≡ on (done d m) (after (simply h))
    by (Next v) = refl
    by (Halt o) = refl
    by Jam = refl
