use Rattle.std.proofs.Common.{take}
use Rattle.expr_fold.specs.Said.{AreSaid}
use Rattle.expr_fold.proofs.said.all_said.Given as goal

abbrev pub invariant-loop-x : goal.invariant-loop-x
invariant-loop-x l = AreSaid l.d (take l.x-index l.delayed) l.made.items
