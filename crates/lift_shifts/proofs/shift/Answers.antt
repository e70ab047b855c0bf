-- The one block is that of the instruction.
use Rattle.x86_inst.specs.declared.Inst.TheVariants as i
use Rattle.lift_blocks.specs.Ends.{goes_on}
use Rattle.lift_shifts.specs.Shifts.{shift_stmts}
use Rattle.lift_shifts.proofs.Whole.{promised, shift_blocks}
use Rattle.lift_shifts.proofs.shift.Goals as goal

pub returns : goal.returns
returns c =
    let a = c.args in
    promised (i.Shift a.op a.size a.d a.count) a.at (goes_on a.at (shift_stmts a.op a.size a.d a.count)) (shift_blocks a.op a.size a.d a.count a.at) c.shift_block.result c.shift_block.ensures
