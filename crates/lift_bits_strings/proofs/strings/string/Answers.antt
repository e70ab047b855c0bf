-- The blocks are those of the instruction.
use Rattle.std.proofs.Common.{◌≡◌, ℕ, ◌^◌, ◌<◌, sym, subst}
use Rattle.std.proofs.lemmas.Result.{IfOk-weaker}
use Rattle.x86_inst.specs.declared.Inst.TheVariants as i
use Rattle.x86_formed.specs.Formed.{HasSpelling}
use Rattle.lift_parts.specs.Lifted.{AreBlocksOf}
use Rattle.lift_bits_strings.specs.Rounds.{round_block, with_test}
use Rattle.lift_bits_strings.proofs.StringBlocks.{string_blocks}
use Rattle.lift_bits_strings.proofs.strings.string.Goals as goal

pub returns : goal.returns
returns c =
    let a = c.args in
    let x = i.Str a.op a.size a.rep a.seg in
    IfOk-weaker c.round_block.result (λ b. b ≡ round_block a.at a.op a.size a.rep a.seg)
    (λ b. (next : ℕ) → next < 2 ^ 32 → HasSpelling x → AreBlocksOf x a.at next (with_test x a.at b))
    (λ b e next small spelled. subst (λ b. AreBlocksOf x a.at next (with_test x a.at b)) (sym e) (string_blocks a.op a.size a.rep a.seg a.at next spelled))
    c.round_block.ensures
