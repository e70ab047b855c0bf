-- What holds of every part that is made of these: it only continues when it may make more turns.
use Rattle.std.specs.Prelude.{◌≡◌, ℕ, ◌+◌, List, [], ◌∷◌, ◌++◌, Option}
use Rattle.dream_words.specs.declared.machine.Width.{Width}
use Rattle.dream_words.specs.declared.machine.Name.{Name}
use Rattle.dream_words.specs.declared.outcome.Call.{Call}
use Rattle.dream_words.specs.declared.outcome.Outcome.{Outcome}
use Rattle.dream_words.specs.declared.outcome.Outcome.TheVariants as outcome
use Rattle.run_parts.specs.Parts.{Exit, Past, Broke, Over, Stuck, Run, Ends, Goes, Part, Test, skip, leave_loop, seq, in_turn, choose, first_arm, catch_break, switch, turn, repeat}
use Rattle.run_parts.specs.Steps.{Next, Halt, Jam, simply}
use Rattle.run_parts.specs.World.{World, returned}
use Rattle.run_parts.specs.Effects.{Doing, setting, loading, storing, calling, trapping}

-- the first list begins the second
abbrev pub Begins : List Call → List Call → Type 0
Begins xs ys = (zs : List Call) × (ys ≡ xs ++ zs)

-- The calls of an outcome begin with these. An outcome that tells no calls tells nothing here.
abbrev pub OutcomeShows : List Call → Outcome → Type 0
OutcomeShows c (outcome.Returned r m calls) = Begins c calls
OutcomeShows c (outcome.Faulted v a m calls) = Begins c calls
OutcomeShows c (outcome.Asking calls) = Begins c calls
OutcomeShows c (outcome.Going calls) = Begins c calls
OutcomeShows c outcome.Strayed = Unit {0}
OutcomeShows c outcome.Undecoded = Unit {0}
OutcomeShows c outcome.Stuck = Unit {0}

-- the calls at an exit begin with these; what is stuck has none
abbrev pub ExitShows : List Call → Exit World Outcome → Type 0
ExitShows c (Past w) = Begins c w.calls
ExitShows c (Broke w) = Begins c w.calls
ExitShows c (Over o) = OutcomeShows c o
ExitShows c Stuck = Unit {0}

-- the calls of a run begin with these
abbrev pub Shows : List Call → Run World Outcome → Type 0
Shows c (Ends x f) = ExitShows c x
Shows c (Goes w) = Begins c w.calls

-- the calls after a simple statement begin with these
abbrev pub DidShows : List Call → Doing → Type 0
DidShows c (Next w) = Begins c w.calls
DidShows c (Halt o) = OutcomeShows c o
DidShows c Jam = Unit {0}

-- What a run in m turns tells of the runs p in other numbers of turns. An end comes after u turns, whatever is left
-- then; the calls of a run that goes on begin those of each run with more turns.
abbrev pub Told : (ℕ → Run World Outcome) → ℕ → Run World Outcome → Type 0
Told p m (Ends x f) = (u : ℕ) × (u + f ≡ m) × ((g : ℕ) → p (u + g) ≡ Ends x g)
Told p m (Goes w) = (k : ℕ) → Shows w.calls (p (m + k))

-- A part is a run: it only adds calls, and in more turns it only continues.
pub record IsRun (a : Part World Outcome) : Type 0 where
  pub grows : (m : ℕ) (w : World) → Shows w.calls (a m w)
  pub told : (m : ℕ) (w : World) → Told (λ n. a n w) m (a m w)

abbrev pub AllRuns : List (Part World Outcome) → Type 0
AllRuns [] = Unit {0}
AllRuns (a ∷ rest) = IsRun a × AllRuns rest

abbrev pub AllArms : List (Test World × Part World Outcome) → Type 0
AllArms [] = Unit {0}
AllArms (a ∷ rest) = IsRun a.1 × AllArms rest

abbrev pub AllGroups : List (List ℕ × Part World Outcome) → Type 0
AllGroups [] = Unit {0}
AllGroups (a ∷ rest) = IsRun a.1 × AllGroups rest

-- What is made of runs is a run.
pub record PartsAreRuns : Type 0 where
  pub skip_is : IsRun skip
  pub leave_is : IsRun leave_loop
  pub seq_is : (a b : Part World Outcome) → IsRun a → IsRun b → IsRun (seq a b)
  pub in_turn_is : (parts : List (Part World Outcome)) → AllRuns parts → IsRun (in_turn parts)
  pub choose_is : (t : Test World) (a b : Part World Outcome) → IsRun a → IsRun b → IsRun (choose t a b)
  pub arms_are : (arms : List (Test World × Part World Outcome)) (last : Part World Outcome) → AllArms arms → IsRun last → IsRun (first_arm arms last)
  pub catch_is : (a : Part World Outcome) → IsRun a → IsRun (catch_break a)
  pub switch_is : (w : World → Option ℕ) (groups : List (List ℕ × Part World Outcome)) (last : Part World Outcome) → AllGroups groups → IsRun last → IsRun (switch w groups last)
  pub repeat_is : (enter : Test World) (body : Part World Outcome) (again : Test World) → IsRun body → IsRun (repeat enter body again)
  -- a loop is its first round and then the loop again, or nothing
  pub loop_unfolds : (enter : Test World) (body : Part World Outcome) (again : Test World) → IsRun body → (m : ℕ) (w : World)
      → repeat enter body again m w ≡ choose enter (turn body again (repeat enter body again)) skip m w
  pub simply_is : (f : World → Doing) → ((w : World) → DidShows w.calls (f w)) → IsRun (simply f)

-- Each simple statement only adds calls.
pub record EffectsAreRuns : Type 0 where
  pub setting_is : (n : Name) (x : ℕ) (w : World) → DidShows w.calls (setting n x w)
  pub loading_is : (n : Name) (width : Width) (at : ℕ) (w : World) → DidShows w.calls (loading n width at w)
  pub storing_is : (width : Width) (at x : ℕ) (w : World) → DidShows w.calls (storing width at x w)
  pub calling_is : (target : ℕ) (w : World) → DidShows w.calls (calling target w)
  pub trapping_is : (vector x : ℕ) (w : World) → DidShows w.calls (trapping vector x w)
  pub returning_is : (w : World) → DidShows w.calls (Halt (returned w))
