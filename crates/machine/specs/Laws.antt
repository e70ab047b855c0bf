-- Laws that a reader expects of the machine.
use Rattle.std.specs.Prelude.{◌≡◌, ◌⊎◌, ◌↔◌, ℕ, ◌+◌, ◌%◌, ◌^◌, ◌<◌, true, List, [], ◌∷◌, Option, IsSome}
use Rattle.elf_image.specs.declared.image.Segment.{Segment}
use Rattle.elf_image.specs.declared.range.Range.{Range}
use Rattle.elf_image.specs.Image.{frozen_byte}
use Rattle.elf_image.specs.Range.{is_inside}
use Rattle.dream_words.specs.declared.outcome.Start.{Start}
use Rattle.dream_words.specs.declared.outcome.Answer.{Answer}
use Rattle.dream_words.specs.Memory.{Mem, byte_at}
use Rattle.dream_words.specs.Same.{IsGoing}
use Rattle.x86_inst.specs.declared.Inst.{Inst}
use Rattle.x86_model.specs.declared.effect.Go.{Go}
use Rattle.x86_model.specs.declared.effect.Go.TheVariants as go
use Rattle.x86_model.specs.Machine.{State}
use Rattle.x86_model.specs.Leads.{stored, step_of, effect_in}
use Rattle.x86_model.specs.Undefined.{reads_undefined, searches_zero}
use Rattle.machine.specs.Code.{Decodes}
use Rattle.machine.specs.Run.{Scene, is_indirect, reads_allowed, is_allowed, strays, machine_run}

-- Every range has its instructions.
abbrev pub EveryRangeDecodes : Type 0
EveryRangeDecodes = (m : List Segment) (r : Range) → (decoded : ℕ → Option (Inst × ℕ)) × Decodes m r decoded

-- An outcome other than Going stays in more steps.
abbrev pub OutcomesStay : Type 0
OutcomesStay = (m : List Segment) (r : Range) (decoded : ℕ → Option (Inst × ℕ)) (start : Start) (answers : List Answer) (n k : ℕ)
    → IsGoing (machine_run m r decoded start answers n) ⊎ (machine_run m r decoded start answers (n + k) ≡ machine_run m r decoded start answers n)

-- a frozen byte of the image, or a byte of the return slot, is another in the new memory
abbrev pub Breaks : List Segment → ℕ → Mem → Mem → Type 0
Breaks m s old new =
    ((a : ℕ) × IsSome (frozen_byte m a) × (byte_at old a ≡ byte_at new a → ⊥))
    ⊎ ((k : ℕ) × (k < 4) × (byte_at old ((s + k) % 2 ^ 32) ≡ byte_at new ((s + k) % 2 ^ 32) → ⊥))

-- the next answer breaks the memory
abbrev pub AnswerBreaks : Scene → List Answer → Mem → Type 0
AnswerBreaks sc [] old = ⊥
AnswerBreaks sc (a ∷ rest) old = Breaks sc.image sc.slot old a.mem

-- the instruction is an indirect call or jump whose target is inside and isn't the entry
pub record IsMiddle (sc : Scene) (i : Inst) (a : ℕ) : Type 0 where
  pub indirect : is_indirect i ≡ true
  pub inside : is_inside sc.range a ≡ true
  pub other : a ≡ sc.range.entry → ⊥

-- the step is a call of an address, and takes an answer
pub data CallsTo (a : ℕ) : Go → Type 0 where
  call : CallsTo a (go.CallTo a)
  leave : CallsTo a (go.LeaveTo a)

-- Why a step strays, by the instruction, the next address and the state.
pub data Straying (sc : Scene) (i : Inst) (next : ℕ) (m : State) : Type 0 where
  -- its store changes a byte that must stay, and no access of it is refused
  store : is_allowed i m (effect_in i next m) ≡ true → Breaks sc.image sc.slot m.mem (stored m.mem (effect_in i next m).store) → Straying sc i next m
  -- its answer does
  answer : is_allowed i m (effect_in i next m) ≡ true → (a : ℕ) → CallsTo a (effect_in i next m).go → AnswerBreaks sc m.left m.mem → Straying sc i next m
  -- it is a return at an ESP other than the slot
  elsewhere : (effect_in i next m).go ≡ go.Return → (m.regs.esp ≡ sc.slot → ⊥) → Straying sc i next m
  -- it reads an undefined flag, whatever its accesses do
  undefined : reads_undefined i m.flags ≡ true → Straying sc i next m
  -- it searches 0 for a bit, and no read of it is refused
  search : reads_allowed i m ≡ true → searches_zero i (step_of i next m) ≡ true → Straying sc i next m
  -- it is an indirect call or jump into the middle of the range, and no read of it is refused
  middle : reads_allowed i m ≡ true → (a : ℕ) → CallsTo a (effect_in i next m).go → IsMiddle sc i a → Straying sc i next m

-- A step strays exactly where it has a reason to.
abbrev pub StrayingIsExact : Type 0
StrayingIsExact = (sc : Scene) (i : Inst) (next : ℕ) (m : State) → (strays sc i m (effect_in i next m) ≡ true) ↔ Straying sc i next m
