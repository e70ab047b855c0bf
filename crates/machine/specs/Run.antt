-- The machine's run: from any start, with any list of answers, one instruction a step.
use Rattle.std.specs.Prelude.{◌≡◌, ℕ, ◌+◌, ◌%◌, ◌^◌, ◌<◌, Bool, true, false, not, ◌&&◌, ◌||◌, ◌==◌, List, [], ◌∷◌, Option, Some, None, is_none, if◌then◌else◌}
use Rattle.elf_image.specs.declared.image.Segment.{Segment}
use Rattle.elf_image.specs.declared.range.Range.{Range}
use Rattle.elf_image.specs.Image.{frozen_byte}
use Rattle.elf_image.specs.Range.{is_inside}
use Rattle.dream_words.specs.declared.outcome.Start.{Start}
use Rattle.dream_words.specs.declared.outcome.Answer.{Answer}
use Rattle.dream_words.specs.declared.outcome.Outcome.{Outcome}
use Rattle.dream_words.specs.declared.outcome.Outcome.TheVariants as outcome
use Rattle.dream_words.specs.Memory.{Mem, byte_at}
use Rattle.dream_words.specs.Ranges.{AreWords, AreBytes}
use Rattle.x86_inst.specs.declared.Inst.{Inst}
use Rattle.x86_inst.specs.declared.Inst.TheVariants as inst
use Rattle.x86_model.specs.declared.effect.Effect.{Effect}
use Rattle.x86_model.specs.declared.effect.Go.{Go}
use Rattle.x86_model.specs.declared.effect.Go.TheVariants as go
use Rattle.x86_model.specs.Machine.{Onward, At, Finished, Strays, Blank, State, Ending, ending_outcome}
use Rattle.x86_model.specs.Leads.{leads, stored, instruction_does, effect_in, refused_read, refused_store}
use Rattle.x86_model.specs.Undefined.{reads_undefined, is_stray}
use Rattle.machine.specs.Steps.{judged, steps}
use Rattle.machine.specs.Code.{is_broken}

-- ---- the steps of a range

-- what stays the same in a run: the image, the range, its instructions, and the place of the return slot
pub record Scene : Type 0 where
  pub image : List Segment
  pub range : Range
  pub decoded : ℕ → Option (Inst × ℕ)
  pub slot : ℕ

-- the next answer changes a byte that must stay
abbrev pub answer_breaks : Scene → List Answer → Mem → Bool
answer_breaks sc [] old = false
answer_breaks sc (a ∷ rest) old = is_broken sc.image sc.slot old a.mem

-- The instruction calls or jumps by a word of a register or of memory: CALL r/m32, JMP r/m32 (Intel SDM vol. 2).
abbrev pub is_indirect : Inst → Bool
is_indirect (inst.CallTo o) = true
is_indirect (inst.JmpTo o) = true
is_indirect _ = false

-- an indirect call or jump goes into the range, and not to its entry
abbrev pub is_middle : Scene → Inst → ℕ → Bool
is_middle sc i a = is_indirect i && (is_inside sc.range a && not (a == sc.range.entry))

-- no read of a step is refused
abbrev pub reads_allowed : Inst → State → Bool
reads_allowed i m = is_none (refused_read i m)

-- no access of a step with an effect is refused
abbrev pub is_allowed : Inst → State → Effect → Bool
is_allowed i m e = reads_allowed i m && is_none (refused_store e m)

-- the step is a call, and takes an answer that changes a byte that must stay
abbrev pub takes_broken : Scene → State → Go → Bool
takes_broken sc m (go.CallTo a) = answer_breaks sc m.left m.mem
takes_broken sc m (go.LeaveTo a) = answer_breaks sc m.left m.mem
takes_broken sc m _ = false

-- the step goes by a word into the middle of the range
abbrev pub goes_middle : Scene → Inst → Go → Bool
goes_middle sc i (go.CallTo a) = is_middle sc i a
goes_middle sc i (go.LeaveTo a) = is_middle sc i a
goes_middle sc i _ = false

-- the step returns with ESP elsewhere than at the slot
abbrev pub returns_elsewhere : Scene → State → Go → Bool
returns_elsewhere sc m go.Return = not (m.regs.esp == sc.slot)
returns_elsewhere sc m _ = false

-- A step strays where its store or its answer changes a frozen byte or the return slot, and no access of it is refused;
-- where it is a return with ESP elsewhere than at the slot; where it reads an undefined flag, whatever its accesses do;
-- and where it searches 0 for a bit, or is an indirect call or jump into the middle of the range, and no read of it is
-- refused.
abbrev pub strays : Scene → Inst → State → Effect → Bool
strays sc i m e =
    (is_allowed i m e && (is_broken sc.image sc.slot m.mem (stored m.mem e.store) || takes_broken sc m e.go))
    || (returns_elsewhere sc m e.go
    || (reads_undefined i m.flags
    || (reads_allowed i m && (is_stray e.go || goes_middle sc i e.go))))

-- The instruction does what it does with the pages that may be accessed, unless it strays.
abbrev pub acts : Scene → Inst → ℕ → ℕ → State → Onward State Ending
acts sc i at next m = judged (strays sc i m (effect_in i next m)) (instruction_does i at next m)

-- the instruction at an address, with its length
abbrev pub act : Scene → ℕ → State → Option (Inst × ℕ) → Onward State Ending
act sc at m None = Blank
act sc at m (Some d) = acts sc d.0 at ((at + d.1) % 2 ^ 32) m

-- One step. Outside the range it records a call to where the run stands, whose answer is the returned state.
abbrev pub step_at : Scene → ℕ → State → Onward State Ending
step_at sc at m = if is_inside sc.range at then act sc at m (sc.decoded at) else judged (answer_breaks sc m.left m.mem) (leads (go.LeaveTo at) at at m)

-- ---- runs

abbrev pub start_state : Start → List Answer → State
start_state start answers = record { regs = start.regs; flags = start.flags; fs = start.fs; gs = start.gs; mem = start.mem; pages = start.pages; left = answers; calls = [] }

abbrev pub outcome_of : Onward State Ending → Outcome
outcome_of (At a m) = outcome.Going m.calls
outcome_of (Finished e) = ending_outcome e
outcome_of Strays = outcome.Strayed
outcome_of Blank = outcome.Undecoded

abbrev pub scene_of : List Segment → Range → (ℕ → Option (Inst × ℕ)) → Start → Scene
scene_of m r decoded start = record { image = m; range = r; decoded = decoded; slot = start.regs.esp }

-- the outcome of at most n steps from a start
abbrev pub machine_run : List Segment → Range → (ℕ → Option (Inst × ℕ)) → Start → List Answer → ℕ → Outcome
machine_run m r decoded start answers n =
    outcome_of (steps State Ending (step_at (scene_of m r decoded start)) n r.entry (start_state start answers))

-- A state to start from: any words, any flags, any pages, and any memory that has the frozen bytes of the image.
pub record IsStart (m : List Segment) (start : Start) : Type 0 where
  pub regs : AreWords start.regs
  pub fs : start.fs < 2 ^ 32
  pub gs : start.gs < 2 ^ 32
  pub bytes : AreBytes start.mem
  pub frozen_bytes : (a b : ℕ) → frozen_byte m a ≡ Some b → byte_at start.mem a ≡ b
