-- The run of a machine without rights to pages: every access is allowed.
use Rattle.std.specs.Prelude.{◌≡◌, ℕ, ◌+◌, ◌%◌, ◌^◌, Bool, ◌||◌, List, Option, Some, None, if◌then◌else◌}
use Rattle.elf_image.specs.declared.image.Segment.{Segment}
use Rattle.elf_image.specs.declared.range.Range.{Range}
use Rattle.elf_image.specs.Range.{is_inside}
use Rattle.dream_words.specs.declared.outcome.Start.{Start}
use Rattle.dream_words.specs.declared.outcome.Answer.{Answer}
use Rattle.dream_words.specs.declared.outcome.Outcome.{Outcome}
use Rattle.dream_words.specs.Pages.{all_pages}
use Rattle.x86_inst.specs.declared.Inst.{Inst}
use Rattle.x86_model.specs.declared.effect.Effect.{Effect}
use Rattle.x86_model.specs.declared.effect.Go.TheVariants as go
use Rattle.x86_model.specs.Machine.{Onward, Blank, State, Ending}
use Rattle.x86_model.specs.Leads.{leads, stored, after, effect_in}
use Rattle.x86_model.specs.Undefined.{reads_undefined, is_stray}
use Rattle.machine.specs.Steps.{judged, steps}
use Rattle.machine.specs.Code.{is_broken}
use Rattle.machine.specs.Run.{Scene, scene_of, start_state, outcome_of, answer_breaks, takes_broken, goes_middle, returns_elsewhere, machine_run}

-- A step strays where its store or its answer changes a frozen byte or the return slot, where it is a return with ESP
-- elsewhere than at the slot, where it reads an undefined flag or searches 0 for a bit, and where it is an indirect call or
-- jump into the middle of the range.
abbrev pub freely_strays : Scene → Inst → State → Effect → Bool
freely_strays sc i m e =
    (is_broken sc.image sc.slot m.mem (stored m.mem e.store) || takes_broken sc m e.go)
    || (returns_elsewhere sc m e.go
    || (reads_undefined i m.flags
    || (is_stray e.go || goes_middle sc i e.go)))

-- The instruction has its effect, unless it strays.
abbrev pub freely_acts : Scene → Inst → ℕ → ℕ → State → Onward State Ending
freely_acts sc i at next m = let e = effect_in i next m in judged (freely_strays sc i m e) (leads e.go at next (after e m))

-- the instruction at an address, with its length
abbrev pub freely_act : Scene → ℕ → State → Option (Inst × ℕ) → Onward State Ending
freely_act sc at m None = Blank
freely_act sc at m (Some d) = freely_acts sc d.0 at ((at + d.1) % 2 ^ 32) m

-- One step. Outside the range it records a call to where the run stands, whose answer is the returned state.
abbrev pub free_step : Scene → ℕ → State → Onward State Ending
free_step sc at m = if is_inside sc.range at then freely_act sc at m (sc.decoded at) else judged (answer_breaks sc m.left m.mem) (leads (go.LeaveTo at) at at m)

-- the outcome of at most n steps from a start
abbrev pub free_run : List Segment → Range → (ℕ → Option (Inst × ℕ)) → Start → List Answer → ℕ → Outcome
free_run m r decoded start answers n =
    outcome_of (steps State Ending (free_step (scene_of m r decoded start)) n r.entry (start_state start answers))

-- Where all pages are allowed, the run is that of a machine without rights to pages.
abbrev pub AllPagesAreFree : Type 0
AllPagesAreFree = (m : List Segment) (r : Range) (decoded : ℕ → Option (Inst × ℕ)) (start : Start) (answers : List Answer) (n : ℕ)
    → start.pages ≡ all_pages → machine_run m r decoded start answers n ≡ free_run m r decoded start answers n
