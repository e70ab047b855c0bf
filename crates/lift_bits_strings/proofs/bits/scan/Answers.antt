-- The block is that of the instruction.
use Rattle.std.proofs.Common.{◌≡◌, ℕ, ◌^◌, ◌<◌, [], ◌∷◌, sym, subst}
use Rattle.std.proofs.lemmas.Result.{IfOk-weaker}
use Rattle.x86_inst.specs.declared.Inst.TheVariants as i
use Rattle.x86_formed.specs.Formed.{HasSpelling}
use Rattle.lift_parts.specs.Lifted.{AreBlocksOf}
use Rattle.lift_blocks.specs.Ends.{goes_on}
use Rattle.lift_bits_strings.specs.BitForms.{scan_stmts}
use Rattle.lift_bits_strings.proofs.BitBlocks.{scan_blocks}
use Rattle.lift_bits_strings.proofs.bits.scan.Goals as goal

pub returns : goal.returns
returns c =
    let a = c.args in
    IfOk-weaker c.scan_block.result (λ b. b ≡ goes_on a.at (scan_stmts a.up a.size a.d a.s a.tz))
    (λ b. (next : ℕ) → next < 2 ^ 32 → HasSpelling (i.Scan a.up a.size a.d a.s a.tz) → AreBlocksOf (i.Scan a.up a.size a.d a.s a.tz) a.at next (b ∷ []))
    (λ b e next small spelled. subst (λ b. AreBlocksOf (i.Scan a.up a.size a.d a.s a.tz) a.at next (b ∷ [])) (sym e) (scan_blocks a.up a.size a.d a.s a.tz a.at next spelled))
    c.scan_block.ensures
