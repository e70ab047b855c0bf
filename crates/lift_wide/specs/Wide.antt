-- The wide instructions: products, quotients, shifts, tests of bits, scans and strings.
use Rattle.std.specs.Prelude.{◌≡◌, ℕ, Bool, true, false, Option, Some, None}
use Rattle.x86_inst.specs.declared.Inst.{Inst}
use Rattle.x86_inst.specs.declared.Inst.TheVariants as i
use Rattle.x86_formed.specs.Formed.{HasSpelling}
use Rattle.micro_ir.specs.declared.flow.Block.{Block}
use Rattle.lift_parts.specs.Lifted.{AreBlocksOf}
use Rattle.lift_bits_strings.specs.Rounds.{with_test}

abbrev pub is_wide : Inst → Bool
is_wide (i.Mul size s) = true
is_wide (i.ImulWide size s) = true
is_wide (i.Imul2 size d s) = true
is_wide (i.Imul3 size d s k) = true
is_wide (i.Div size s) = true
is_wide (i.Idiv size s) = true
is_wide (i.Shift op size d n) = true
is_wide (i.DShift left d g n) = true
is_wide (i.Bit op size d s) = true
is_wide (i.Scan up size d s tz) = true
is_wide (i.Str op size r s) = true
is_wide _ = false

-- The block of a wide instruction at an address, with the next one: with the test of ECX before it, where the instruction
-- is repeated, it is the instruction's. The others have none.
abbrev pub IsWideBlock : Inst → ℕ → ℕ → Option Block → Type 0
IsWideBlock x at next None = is_wide x ≡ false
IsWideBlock x at next (Some b) = (is_wide x ≡ true) × (HasSpelling x → AreBlocksOf x at next (with_test x at b))
