-- The state that the code keeps of a run, read as a world, and where a part of the code's run leads.
use Rattle.std.specs.Prelude.{◌≡◌, ℕ, Option, Some, None, List, length, drop}
use Rattle.dream_words.specs.declared.machine.Flags.{Flags}
use Rattle.dream_words.specs.declared.outcome.Answer.{Answer}
use Rattle.dream_words.specs.declared.outcome.Call.{Call}
use Rattle.dream_words.specs.declared.outcome.Outcome.{Outcome}
use Rattle.dream_words.specs.declared.outcome.Outcome.TheVariants as outcome
use Rattle.dream_words.specs.Registers.{word_of_bit}
use Rattle.run_parts.specs.Parts.{Run as AnyRun, Ends, Goes, Past, Broke, Over, Stuck, always}
use Rattle.run_parts.specs.Steps.{done}
use Rattle.run_parts.specs.World.{World, returned}
use Rattle.run_parts.specs.Effects.{Doing}
use Rattle.c_syntax.specs.declared.syntax.CCond.{CCond}
use Rattle.c_run.specs.declared.env.FlagWords.{FlagWords}
use Rattle.c_run.specs.declared.state.End.{End}
use Rattle.c_run.specs.declared.state.End.TheVariants as end
use Rattle.c_run.specs.declared.state.Flow.{Flow}
use Rattle.c_run.specs.declared.state.Flow.TheVariants as flow
use Rattle.c_run.specs.declared.state.State.{State}
use Rattle.c_run.specs.Env.{names_of}
use Rattle.c_syntax.specs.Run.{Part, Test, holds}

-- flags as words
abbrev pub flag_words : Flags → FlagWords
flag_words f = record { c = word_of_bit f.c; p = word_of_bit f.p; z = word_of_bit f.z; s = word_of_bit f.s; o = word_of_bit f.o }

-- the answers that are left after calls
abbrev pub Left : Type 0
Left = List Call → List Answer

-- the answers that are left where each call takes one
abbrev pub after_calls : List Answer → Left
after_calls answers calls = drop (length calls) answers

-- The world that a state stands for. The answers that are left are those after the calls so far.
abbrev pub world_of : Left → State → World
world_of left s = record { names = names_of s.env; mem = s.mem; pages = s.pages.now; left = left s.calls; calls = s.calls }

-- a run of a part, in a world
abbrev pub Run : Type 0
Run = AnyRun World Outcome

-- the end of the whole run
abbrev pub ends_at : End → ℕ → World → Run
ends_at end.Returned m w = Ends (Over (returned w)) m
ends_at (end.Faulted v at) m w = Ends (Over (outcome.Faulted v at w.mem w.calls)) m
ends_at end.Asking m w = Ends (Over (outcome.Asking w.calls)) m
ends_at end.Stuck m w = Ends Stuck m
ends_at end.Going m w = Goes w

-- where a part leads, with m turns left
abbrev pub leads : Flow → ℕ → World → Run
leads flow.Next m w = Ends (Past w) m
leads flow.Left m w = Ends (Broke w) m
leads (flow.Ends e) m w = ends_at e m w

-- What the code did is what a part does in so many turns: it leads there, with as many turns left, to the new state's world.
abbrev pub Does : Part → Left → ℕ → State → Flow → ℕ → State → Type 0
Does part left turns old f over new = leads f over (world_of left new) ≡ part turns (world_of left old)

-- What the code did is what a simple statement does, whatever the turns.
abbrev pub DoesSimply : (World → Doing) → Left → State → Flow → State → Type 0
DoesSimply effect left old f new = (m : ℕ) → leads f m (world_of left new) ≡ done (effect (world_of left old)) m

-- where an arm or a group leads, or the last part where none was taken
abbrev pub leads_or : Option Flow → Part → Part
leads_or None last m w = last m w
leads_or (Some f) last m w = leads f m w

-- What the code did is what a choice of parts does, whatever its last part.
abbrev pub DoesOr : (Part → Part) → Left → ℕ → State → Option Flow → ℕ → State → Type 0
DoesOr choice left turns old o over new = (last : Part) → leads_or o last over (world_of left new) ≡ choice last turns (world_of left old)

-- the test of a loop; one that is absent holds
abbrev pub test_of : Option CCond → Test
test_of None = always
test_of (Some t) = holds t
