-- What holds of the definitions, beside their use.
use Rattle.std.specs.Prelude.{◌≡◌, ◌≢◌, ◌⊎◌, ◌↔◌, true, ℕ, ◌+◌, ◌*◌, ◌<◌, ◌==◌, not}
use Rattle.x86_inst.specs.declared.Inst.{Inst}
use Rattle.x86_inst.specs.declared.Size.{Size}
use Rattle.dream_words.specs.declared.machine.Flags.{Flags}
use Rattle.dream_words.specs.declared.machine.Regs.{Regs}
use Rattle.dream_words.specs.Words.{IsSize, low_part, high_signed_product}
use Rattle.x86_model.specs.declared.effect.Step.{Step}
use Rattle.x86_model.specs.declared.effect.Go.TheVariants as go
use Rattle.x86_model.specs.Operands.{bits_of, part_of, with_part}
use Rattle.x86_model.specs.Arithmetic.{product_overflows, sign_copies}
use Rattle.x86_model.specs.Effects.{condition_of, opposite}
use Rattle.x86_model.specs.Meaning.{effect_of}
use Rattle.x86_model.specs.Undefined.{reads_undefined, searches_zero}

-- a register that is written holds what was written, taken to its size
abbrev pub PartsReadBack : Type 0
PartsReadBack = (size : Size) (r : Regs) (n v : ℕ) → n < 8 → part_of size (with_part size r n v) n ≡ low_part (bits_of size) v

-- and the other registers of that size stay
abbrev pub PartsAreApart : Type 0
PartsAreApart = (size : Size) (r : Regs) (n k v : ℕ) → n < 8 → k < 8 → n ≢ k → part_of size (with_part size r n v) k ≡ part_of size r k

-- each condition of an odd number is the opposite of the one before (Intel SDM vol. 1, appendix B)
abbrev pub ConditionsAreOpposite : Type 0
ConditionsAreOpposite = (n : ℕ) (f : Flags) → condition_of (n * 2 + 1) f ≡ opposite (condition_of (n * 2) f)

-- a signed product doesn't fit exactly where its high half isn't made of copies of the low half's sign (Intel SDM vol. 2, IMUL)
abbrev pub ProductOverflowsByHalves : Type 0
ProductOverflowsByHalves = (bits x y : ℕ) → IsSize bits → product_overflows bits x y ≡ not (high_signed_product bits x y == sign_copies bits (x * y))

-- The effect of an instruction is a stray exactly where the instruction reads a flag that is undefined, or searches 0 for a
-- bit.
abbrev pub StraysSo : Type 0
StraysSo = (x : Inst) (a : Step) → ((effect_of x a).go ≡ go.Stray) ↔ ((reads_undefined x a.flags ≡ true) ⊎ (searches_zero x a ≡ true))
