-- The block is that of the instruction.
use Rattle.std.proofs.Common.{◌≡◌, ℕ, ◌^◌, ◌<◌, [], ◌∷◌, sym, subst}
use Rattle.std.proofs.lemmas.Result.{IfOk-weaker}
use Rattle.x86_inst.specs.declared.Inst.TheVariants as i
use Rattle.x86_formed.specs.Formed.{HasSpelling}
use Rattle.lift_parts.specs.Lifted.{AreBlocksOf}
use Rattle.lift_blocks.specs.Ends.{goes_on}
use Rattle.lift_bits_strings.specs.BitForms.{bit_stmts}
use Rattle.lift_bits_strings.proofs.BitBlocks.{bit_blocks}
use Rattle.lift_bits_strings.proofs.bits.bit.Goals as goal

pub returns : goal.returns
returns c =
    let a = c.args in
    IfOk-weaker c.bit_block.result (λ b. b ≡ goes_on a.at (bit_stmts a.op a.size a.d a.s))
    (λ b. (next : ℕ) → next < 2 ^ 32 → HasSpelling (i.Bit a.op a.size a.d a.s) → AreBlocksOf (i.Bit a.op a.size a.d a.s) a.at next (b ∷ []))
    (λ b e next small spelled. subst (λ b. AreBlocksOf (i.Bit a.op a.size a.d a.s) a.at next (b ∷ [])) (sym e) (bit_blocks a.op a.size a.d a.s a.at next spelled))
    c.bit_block.ensures
