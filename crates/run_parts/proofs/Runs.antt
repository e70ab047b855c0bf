-- What is made of runs is a run.
use Rattle.std.proofs.Common.{map, ◌≡◌, ℕ, zero, suc, ◌+◌, ◌≤◌, ◌<◌, nat_eq, Bool, true, false, if◌then◌else◌, List, [], ◌∷◌, ◌++◌, Option, Some, None, refl, sym, ap, ◌∙◌, subst, arith, append_assoc, append-nil}
use Rattle.dream_words.specs.declared.outcome.Answer.{Answer}
use Rattle.dream_words.specs.declared.outcome.Call.{Call}
use Rattle.dream_words.specs.declared.outcome.Outcome.{Outcome}
use Rattle.dream_words.specs.declared.outcome.Outcome.TheVariants as outcome
use Rattle.dream_words.specs.Memory.{load, store, bytes_of}
use Rattle.dream_words.specs.Pages.{first_bad}
use Rattle.run_parts.specs.Parts.{Exit, Past, Broke, Over, Stuck, Run, Ends, Goes, Part, Test, skip, leave_loop, goes_on, on, after, seq, in_turn, decide, choose, first_arm, caught, catch_break, has, group_of, given, switch, round, turn, rounds, repeat}
use Rattle.run_parts.specs.Steps.{Did, Next, Halt, Jam, having, done, simply, do_all, then_do}
use Rattle.run_parts.specs.World.{World}
use Rattle.run_parts.specs.Effects.{Doing, set_word, allowing, answered_by}
use Rattle.run_parts.specs.Laws.{Begins, OutcomeShows, ExitShows, Shows, DidShows, Told, IsRun, AllRuns, AllArms, AllGroups, PartsAreRuns, EffectsAreRuns}

-- runs and parts of a world
abbrev R : Type 0
R = Run World Outcome

abbrev P : Type 0
P = Part World Outcome

pub begins_self : (xs : List Call) → Begins xs xs
begins_self xs = ([], sym (append-nil xs))

pub begins_on : (xs ys zs : List Call) → Begins xs ys → Begins ys zs → Begins xs zs
begins_on xs ys zs a b = (a.0 ++ b.0, b.1 ∙ ap (λ l. l ++ b.0) a.1 ∙ append_assoc xs a.0 b.0)

-- what shows more calls shows fewer
outcome_on : (xs ys : List Call) (o : Outcome) → Begins xs ys → OutcomeShows ys o → OutcomeShows xs o
outcome_on xs ys (outcome.Returned r m c) a h = begins_on xs ys c a h
outcome_on xs ys (outcome.Faulted v at m c) a h = begins_on xs ys c a h
outcome_on xs ys (outcome.Asking c) a h = begins_on xs ys c a h
outcome_on xs ys (outcome.Going c) a h = begins_on xs ys c a h
outcome_on xs ys outcome.Strayed a h = tt
outcome_on xs ys outcome.Undecoded a h = tt
outcome_on xs ys outcome.Stuck a h = tt

pub shows_on : (xs ys : List Call) (r : R) → Begins xs ys → Shows ys r → Shows xs r
shows_on xs ys (Ends (Past w) f) a h = begins_on xs ys w.calls a h
shows_on xs ys (Ends (Broke w) f) a h = begins_on xs ys w.calls a h
shows_on xs ys (Ends (Over o) f) a h = outcome_on xs ys o a h
shows_on xs ys (Ends Stuck f) a h = tt
shows_on xs ys (Goes w) a h = begins_on xs ys w.calls a h

-- ---- what follows a run

-- a run and what follows it
on_shows : (c : List Call) (r : R) (k : Exit World Outcome → ℕ → R) → Shows c r → ((x : Exit World Outcome) (m : ℕ) → ExitShows c x → Shows c (k x m)) → Shows c (on r k)
on_shows c (Ends x m) k h s = s x m h
on_shows c (Goes w) k h s = h

-- where the run ends
end_on : (p : ℕ → R) (k : Exit World Outcome → ℕ → R) (m u f : ℕ) (x : Exit World Outcome) → u + f ≡ m → ((g : ℕ) → p (u + g) ≡ Ends x g) → (r : R) → Told (k x) f r → Told (λ n. on (p n) k) m r
end_on p k m u f x e h (Ends y g) t = (
  u + t.0,
  omega (arith, e, t.1),
  λ j.
      ap (λ n. on (p n) k) (let z : u + t.0 + j ≡ u + (t.0 + j) = omega arith in z) ∙ ap (λ q. on q k) (h (t.0 + j)) ∙ t.2 j,
)
end_on p k m u f x e h (Goes w) t = λ j.
    subst (λ q. Shows w.calls (on q k)) (sym (ap p (let z : m + j ≡ u + (f + j) = omega (arith, e) in z) ∙ h (f + j))) (t j)

-- a run and what follows it, where what follows is told for no more turns than the run began with
on_told : (p : ℕ → R) (k : Exit World Outcome → ℕ → R) (m : ℕ) (r : R) → Told p m r
    → ((x : Exit World Outcome) (n : ℕ) → n ≤ m → Told (k x) n (k x n)) → ((c : List Call) (x : Exit World Outcome) (n : ℕ) → ExitShows c x → Shows c (k x n)) → Told (λ n. on (p n) k) m (on r k)
on_told p k m (Ends x f) t h s = end_on p k m t.0 f x t.1 t.2 (k x f) (h x f (omega (arith, t.1)))
on_told p k m (Goes w) t h s = λ j. on_shows w.calls (p (m + j)) k (t j) (s w.calls)

-- equal runs tell the same
told_same : (p q : ℕ → R) (m : ℕ) (r : R) → ((n : ℕ) → p n ≡ q n) → Told q m r → Told p m r
told_same p q m (Ends x f) e t = (t.0, t.1, λ g. e (t.0 + g) ∙ t.2 g)
told_same p q m (Goes w) e t = λ k. subst (Shows w.calls) (sym (e (m + k))) (t k)

-- an end that comes at once
at_once : (x : Exit World Outcome) (m : ℕ) → Told (Ends x) m (Ends x m)
at_once x m = (0, omega arith, λ g. ap (λ n. Ends x n) (let z : 0 + g ≡ g = omega arith in z))

-- nothing, and a break
pub skip_run : IsRun skip
skip_run = record { grows = λ m w. begins_self w.calls; told = λ m w. at_once (Past w) m }

pub leave_run : IsRun leave_loop
leave_run = record { grows = λ m w. begins_self w.calls; told = λ m w. at_once (Broke w) m }

-- ---- sequence

-- the second part after the first
after_shows : (b : P) → IsRun b → (c : List Call) (x : Exit World Outcome) (m : ℕ) → ExitShows c x → Shows c (after b x m)
after_shows b i c (Past w) m h = shows_on c w.calls (b m w) h (i.grows m w)
after_shows b i c (Broke w) m h = h
after_shows b i c (Over o) m h = h
after_shows b i c Stuck m h = h

after_told : (b : P) → IsRun b → (x : Exit World Outcome) (n : ℕ) → Told (after b x) n (after b x n)
after_told b i (Past w) n = i.told n w
after_told b i (Broke w) n = at_once (Broke w) n
after_told b i (Over o) n = at_once (Over o) n
after_told b i Stuck n = at_once Stuck n

-- one part and then another
pub seq_run : (a b : P) → IsRun a → IsRun b → IsRun (seq a b)
seq_run a b i j = record {
  grows = λ m w. on_shows w.calls (a m w) (after b) (i.grows m w) (after_shows b j w.calls);
  told = λ m w. on_told (λ n. a n w) (after b) m (a m w) (i.told m w) (λ x n l. after_told b j x n) (after_shows b j);
}

-- parts one after another
pub in_turn_run : (parts : List P) → AllRuns parts → IsRun (in_turn parts)
in_turn_run [] h = skip_run
in_turn_run (a ∷ rest) h = seq_run a (in_turn rest) h.0 (in_turn_run rest h.1)

-- ---- choice

-- one of two parts, by what a test gave
decide_shows : (c : List Call) (o : Option Bool) (a b : P) (m : ℕ) (w : World) → Shows c (a m w) → Shows c (b m w) → Shows c (decide o a b m w)
decide_shows c None a b m w h i = tt
decide_shows c (Some true) a b m w h i = h
decide_shows c (Some false) a b m w h i = i

decide_told : (o : Option Bool) (a b : P) (m : ℕ) (w : World) → Told (λ n. a n w) m (a m w) → Told (λ n. b n w) m (b m w) → Told (λ n. decide o a b n w) m (decide o a b m w)
decide_told None a b m w h i = at_once Stuck m
decide_told (Some true) a b m w h i = h
decide_told (Some false) a b m w h i = i

-- one of two parts, by a test
pub choose_run : (t : Test World) (a b : P) → IsRun a → IsRun b → IsRun (choose t a b)
choose_run t a b i j = record {
  grows = λ m w. decide_shows w.calls (t w) a b m w (i.grows m w) (j.grows m w);
  told = λ m w. decide_told (t w) a b m w (i.told m w) (j.told m w);
}

-- the first arm whose test holds
pub arms_run : (arms : List (Test World × P)) (last : P) → AllArms arms → IsRun last → IsRun (first_arm arms last)
arms_run [] last h i = i
arms_run (a ∷ rest) last h i = choose_run a.0 a.1 (first_arm rest last) h.0 (arms_run rest last h.1 i)

-- ---- switch

-- a break that is caught
caught_shows : (c : List Call) (x : Exit World Outcome) (m : ℕ) → ExitShows c x → Shows c (caught x m)
caught_shows c (Past w) m h = h
caught_shows c (Broke w) m h = h
caught_shows c (Over o) m h = h
caught_shows c Stuck m h = h

caught_told : (x : Exit World Outcome) (n : ℕ) → Told (caught x) n (caught x n)
caught_told (Past w) n = at_once (Past w) n
caught_told (Broke w) n = at_once (Past w) n
caught_told (Over o) n = at_once (Over o) n
caught_told Stuck n = at_once Stuck n

-- a part whose breaks are caught
pub catch_run : (a : P) → IsRun a → IsRun (catch_break a)
catch_run a i = record {
  grows = λ m w. on_shows w.calls (a m w) caught (i.grows m w) (caught_shows w.calls);
  told = λ m w. on_told (λ n. a n w) caught m (a m w) (i.told m w) (λ x n l. caught_told x n) caught_shows;
}

-- one of two runs
if_shows : (c : List Call) (b : Bool) (x y : R) → Shows c x → Shows c y → Shows c (if b then x else y)
if_shows c true x y h i = h
if_shows c false x y h i = i

if_told : (b : Bool) (p q : ℕ → R) (m : ℕ) → Told p m (p m) → Told q m (q m) → Told (λ n. if b then p n else q n) m (if b then p m else q m)
if_told true p q m h i = h
if_told false p q m h i = i

-- the group of a value
pub groups_run : (groups : List (List ℕ × P)) (last : P) (x : ℕ) → AllGroups groups → IsRun last → IsRun (group_of groups last x)
groups_run [] last x h i = record { grows = i.grows; told = i.told }
groups_run (g ∷ gs) last x h i = let rest = groups_run gs last x h.1 i in record {
  grows = λ m w. if_shows w.calls (has g.0 x) (g.1 m w) (group_of gs last x m w) (h.0.grows m w) (rest.grows m w);
  told = λ m w. if_told (has g.0 x) (λ n. g.1 n w) (λ n. group_of gs last x n w) m (h.0.told m w) (rest.told m w);
}

-- a part that is chosen by a word
given_shows : (c : List Call) (o : Option ℕ) (f : ℕ → P) (m : ℕ) (w : World) → ((x : ℕ) → Shows c (f x m w)) → Shows c (given o f m w)
given_shows c None f m w h = tt
given_shows c (Some x) f m w h = h x

given_told : (o : Option ℕ) (f : ℕ → P) (m : ℕ) (w : World) → ((x : ℕ) → Told (λ n. f x n w) m (f x m w)) → Told (λ n. given o f n w) m (given o f m w)
given_told None f m w h = at_once Stuck m
given_told (Some x) f m w h = h x

-- a switch
pub switch_run : (v : World → Option ℕ) (groups : List (List ℕ × P)) (last : P) → AllGroups groups → IsRun last → IsRun (switch v groups last)
switch_run v groups last h i = catch_run (λ m w. given (v w) (group_of groups last) m w) (record {
  grows = λ m w. given_shows w.calls (v w) (group_of groups last) m w (λ x. (groups_run groups last x h i).grows m w);
  told = λ m w. given_told (v w) (group_of groups last) m w (λ x. (groups_run groups last x h i).told m w);
})

-- ---- loops

module _ (enter : Test World) (body : P) (again : Test World) (i : IsRun body) where
  -- a round, and rounds, show the calls so far
  round_shows : (next : P) (c : List Call) (x : Exit World Outcome) (m : ℕ) → ((w : World) → Shows w.calls (next m w)) → ExitShows c x → Shows c (round again next x m)
  round_shows next c (Past w) m g h = decide_shows c (again w) next skip m w (shows_on c w.calls (next m w) h (g w)) h
  round_shows next c (Broke w) m g h = h
  round_shows next c (Over o) m g h = h
  round_shows next c Stuck m g h = h

  rounds_shows : (g m : ℕ) (w : World) → Shows w.calls (rounds g enter body again m w)
  rounds_shows zero m w = decide_shows w.calls (enter w) goes_on skip m w (begins_self w.calls) (begins_self w.calls)
  rounds_shows (suc g) zero w = decide_shows w.calls (enter w) (turn body again (rounds g enter body again)) skip 0 w (begins_self w.calls) (begins_self w.calls)
  rounds_shows (suc g) (suc m) w = decide_shows w.calls (enter w) (turn body again (rounds g enter body again)) skip (suc m) w
      (on_shows w.calls (body m w) (round again (rounds g enter body again)) (i.grows m w) (λ x n. round_shows (rounds g enter body again) w.calls x n (rounds_shows g n)))
      (begins_self w.calls)

  -- what follows a round matters only in the turns that are left
  round_gas : (p q : P) (m : ℕ) (w : World) (r : R) → Told (λ n. body n w) m r → ((t : World) (f : ℕ) → f ≤ m → p f t ≡ q f t) → on r (round again p) ≡ on r (round again q)
  round_gas p q m w (Ends (Past t) f) e h = pick (again t)
    where
      pick : (o : Option Bool) → decide o p skip f t ≡ decide o q skip f t
      pick None = refl
      pick (Some true) = h t f (omega (arith, e.1))
      pick (Some false) = refl
  round_gas p q m w (Ends (Broke t) f) e h = refl
  round_gas p q m w (Ends (Over x) f) e h = refl
  round_gas p q m w (Ends Stuck f) e h = refl
  round_gas p q m w (Goes t) e h = refl

  -- a loop that is entered or not
  entering : (o : Option Bool) (a b : P) (m : ℕ) (w : World) → a m w ≡ b m w → decide o a skip m w ≡ decide o b skip m w
  entering None a b m w e = refl
  entering (Some true) a b m w e = e
  entering (Some false) a b m w e = refl

  -- enough rounds are as good as more
  gas : (g h m : ℕ) (w : World) → m ≤ g → m ≤ h → rounds g enter body again m w ≡ rounds h enter body again m w
  gas zero zero m w a b = refl
  gas zero (suc h) zero w a b = entering (enter w) goes_on (turn body again (rounds h enter body again)) 0 w refl
  gas zero (suc h) (suc m) w a b = absurd (let z : ⊥ = omega arith in z)
  gas (suc g) zero zero w a b = entering (enter w) (turn body again (rounds g enter body again)) goes_on 0 w refl
  gas (suc g) zero (suc m) w a b = absurd (let z : ⊥ = omega arith in z)
  gas (suc g) (suc h) zero w a b = entering (enter w) (turn body again (rounds g enter body again)) (turn body again (rounds h enter body again)) 0 w refl
  gas (suc g) (suc h) (suc m) w a b =
      entering (enter w) (turn body again (rounds g enter body again)) (turn body again (rounds h enter body again)) (suc m) w
      (round_gas (rounds g enter body again) (rounds h enter body again) m w (body m w) (i.told m w) (λ t f le. gas g h f t (omega arith) (omega arith)))

  -- a loop is its first round and the loop again
  pub unfold_repeat : (m : ℕ) (w : World) → repeat enter body again m w ≡ choose enter (turn body again (repeat enter body again)) skip m w
  unfold_repeat zero w = entering (enter w) goes_on (turn body again (repeat enter body again)) 0 w refl
  unfold_repeat (suc m) w =
      entering (enter w) (turn body again (rounds m enter body again)) (turn body again (repeat enter body again)) (suc m) w
      (round_gas (rounds m enter body again) (repeat enter body again) m w (body m w) (i.told m w) (λ t f le. gas m f f t le (omega arith)))

  -- a loop, and a turn of it, show the calls so far
  repeat_shows : (m : ℕ) (w : World) → Shows w.calls (repeat enter body again m w)
  repeat_shows m w = rounds_shows m m w

  turn_shows : (m : ℕ) (w : World) → Shows w.calls (turn body again (repeat enter body again) m w)
  turn_shows zero w = begins_self w.calls
  turn_shows (suc m) w = on_shows w.calls (body m w) (round again (repeat enter body again)) (i.grows m w) (λ x n. round_shows (repeat enter body again) w.calls x n (repeat_shows n))

  -- a turn comes before the rest
  one_more : (p : ℕ → R) (m : ℕ) (r : R) → Told (λ n. p (suc n)) m r → Told p (suc m) r
  one_more p m (Ends x f) t = (suc t.0, omega (arith, t.1), λ g. ap p (let z : suc t.0 + g ≡ suc (t.0 + g) = omega arith in z) ∙ t.2 g)
  one_more p m (Goes w) t = λ k. subst (λ n. Shows w.calls (p n)) (let z : suc (m + k) ≡ suc m + k = omega arith in z) (t k)

  -- a round tells what its parts tell
  round_told : (next : P) (x : Exit World Outcome) (n : ℕ) → ((w : World) → Told (λ n. next n w) n (next n w)) → Told (round again next x) n (round again next x n)
  round_told next (Past w) n h = decide_told (again w) next skip n w (h w) (at_once (Past w) n)
  round_told next (Broke w) n h = at_once (Past w) n
  round_told next (Over o) n h = at_once (Over o) n
  round_told next Stuck n h = at_once Stuck n

  -- so does a turn
  turn_told : (m : ℕ) (w : World) → ((n : ℕ) → n < m → (t : World) → Told (λ k. repeat enter body again k t) n (repeat enter body again n t))
      → Told (λ n. turn body again (repeat enter body again) n w) m (turn body again (repeat enter body again) m w)
  turn_told zero w h = λ k. turn_shows (0 + k) w
  turn_told (suc m) w h = one_more (λ n. turn body again (repeat enter body again) n w) m _
      (on_told (λ n. body n w) (round again (repeat enter body again)) m (body m w) (i.told m w)
      (λ x n l. round_told (repeat enter body again) x n (h n (omega (arith, l)))) (λ c x n. round_shows (repeat enter body again) c x n (repeat_shows n)))

  -- so does a loop, by induction on the turns
  repeat_told : (bound m : ℕ) → m < bound → (w : World) → Told (λ n. repeat enter body again n w) m (repeat enter body again m w)
  repeat_told zero m l w = absurd (let z : ⊥ = omega (arith, l) in z)
  repeat_told (suc bound) m l w =
      told_same (λ n. repeat enter body again n w) (λ n. choose enter (turn body again (repeat enter body again)) skip n w) m (repeat enter body again m w) (λ n. unfold_repeat n w)
      (subst (Told (λ n. choose enter (turn body again (repeat enter body again)) skip n w) m) (sym (unfold_repeat m w))
      (decide_told (enter w) (turn body again (repeat enter body again)) skip m w (turn_told m w (λ n k t. repeat_told bound n (omega (arith, k, l)) t)) (at_once (Past w) m)))

  -- a loop
  pub repeat_run : IsRun (repeat enter body again)
  repeat_run = record { grows = repeat_shows; told = λ m w. repeat_told (suc m) m (omega arith) w }

-- ---- simple statements

-- what a simple statement does
done_shows : (c : List Call) (d : Doing) (m : ℕ) → DidShows c d → Shows c (done d m)
done_shows c (Next w) m h = h
done_shows c (Halt o) m h = h
done_shows c Jam m h = h

done_told : (d : Doing) (m : ℕ) → Told (done d) m (done d m)
done_told (Next w) m = at_once (Past w) m
done_told (Halt o) m = at_once (Over o) m
done_told Jam m = at_once Stuck m

-- a simple statement
pub simply_run : (f : World → Doing) → ((w : World) → DidShows w.calls (f w)) → IsRun (simply f)
simply_run f h = record { grows = λ m w. done_shows w.calls (f w) m (h w); told = λ m w. done_told (f w) m }

-- a word that is evaluated first
pub having_shows : {A : Type 0} (c : List Call) (o : Option A) (k : A → Doing) → ((x : A) → DidShows c (k x)) → DidShows c (having o k)
having_shows c None k h = tt
having_shows c (Some x) k h = h x

-- a call
answered_shows : (c : List Call) (left : List Answer) (calls : List Call) (w : World) → Begins c calls → DidShows c (answered_by left calls w)
answered_shows c [] calls w h = h
answered_shows c (a ∷ rest) calls w h = h

-- an access
access_shows : (bad : Option ℕ) (w : World) (next : Doing) → DidShows w.calls next → DidShows w.calls (allowing bad w next)
access_shows None w next h = h
access_shows (Some a) w next h = begins_self w.calls

-- a fault
trap_shows : (vector : ℕ) (b : Bool) (w : World) → DidShows w.calls (if b then Next w else Halt (outcome.Faulted vector 0 w.mem w.calls))
trap_shows vector true w = begins_self w.calls
trap_shows vector false w = begins_self w.calls

-- the law on simple statements
pub effects : EffectsAreRuns
effects = record {
  setting_is = λ n x w. begins_self w.calls;
  loading_is = λ n width at w. access_shows (first_bad w.pages.read at (bytes_of width)) w (Next (set_word n (load w.mem at (bytes_of width)) w)) (begins_self w.calls);
  storing_is = λ width at x w. access_shows (first_bad w.pages.write at (bytes_of width)) w (Next (record w { mem = store w.mem at (bytes_of width) x })) (begins_self w.calls);
  calling_is = λ target w. answered_shows w.calls w.left _ w (_, refl);
  trapping_is = λ vector x w. trap_shows vector (nat_eq x 0) w;
  returning_is = λ w. begins_self w.calls;
}

-- the law on parts
pub parts : PartsAreRuns
parts = record {
  skip_is = skip_run;
  leave_is = leave_run;
  seq_is = seq_run;
  in_turn_is = in_turn_run;
  choose_is = choose_run;
  arms_are = arms_run;
  catch_is = catch_run;
  switch_is = switch_run;
  repeat_is = λ enter body again i. repeat_run enter body again i;
  loop_unfolds = λ enter body again i. unfold_repeat enter body again i;
  simply_is = simply_run;
}

-- ---- what the record says in other words

-- an end comes after a number of turns of its own
pub ends_counted : (a : P) → IsRun a → (m : ℕ) (w : World) (x : Exit World Outcome) (f : ℕ) → a m w ≡ Ends x f → (u : ℕ) × (u + f ≡ m) × ((g : ℕ) → a (u + g) w ≡ Ends x g)
ends_counted a i m w x f e = subst (Told (λ n. a n w) m) e (i.told m w)

-- in more turns an end stays, with so many more left
pub ends_later : (a : P) → IsRun a → (m k : ℕ) (w : World) (x : Exit World Outcome) (f : ℕ) → a m w ≡ Ends x f → a (m + k) w ≡ Ends x (f + k)
ends_later a i m k w x f e =
    let c = ends_counted a i m w x f e in
    ap (λ n. a n w) (let z : m + k ≡ c.0 + (f + k) = omega (arith, c.1) in z) ∙ c.2 (f + k)

-- in more turns the calls of a run that goes on stay at the beginning
pub goes_later : (a : P) → IsRun a → (m k : ℕ) (w v : World) → a m w ≡ Goes v → Shows v.calls (a (m + k) w)
goes_later a i m k w v e = (subst (Told (λ n. a n w) m) e (i.told m w)) k

-- ---- a block's statements

-- what follows a simple statement
after_done : {S E : Type 0} (d : Did S E) (fs : List (S → Did S E)) (m : ℕ) → ((t : S) → in_turn (map simply fs) m t ≡ done (do_all fs t) m) → on (done d m) (after (in_turn (map simply fs))) ≡ done (then_do d (do_all fs)) m
after_done (Next t) fs m h = h t
after_done (Halt e) fs m h = refl
after_done Jam fs m h = refl

-- simple statements one after the other do, as a part, what they do in a block of a flow
pub do_all_is : {S E : Type 0} (fs : List (S → Did S E)) (m : ℕ) (s : S) → in_turn (map simply fs) m s ≡ done (do_all fs s) m
do_all_is [] m s = refl
do_all_is (f ∷ fs) m s = after_done (f s) fs m (do_all_is fs m)
