-- The one block is that of the instruction.
use Rattle.x86_inst.specs.declared.Inst.TheVariants as i
use Rattle.lift_blocks.specs.Ends.{goes_on}
use Rattle.lift_shifts.specs.Shifts.{double_stmts}
use Rattle.lift_shifts.proofs.Whole.{double_blocks, promised}
use Rattle.lift_shifts.proofs.double_shift.Goals as goal

pub returns : goal.returns
returns c =
    let a = c.args in
    promised (i.DShift a.left a.d a.g a.count) a.at (goes_on a.at (double_stmts a.left a.d a.g a.count)) (double_blocks a.left a.d a.g a.count a.at) c.double_block.result c.double_block.ensures
