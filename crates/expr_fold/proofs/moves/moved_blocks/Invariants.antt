use Rattle.std.proofs.Common.{length}
use Rattle.expr_fold.specs.Counted.{once_of}
use Rattle.expr_fold.proofs.Walked.{Makes}
use Rattle.expr_fold.proofs.moves.moved_blocks.Given as goal

abbrev pub invariant-loop-b : goal.invariant-loop-b
invariant-loop-b l = Makes (once_of l.reads) l.initial.rest l.rest l.made.items

abbrev pub decreases-loop-b : goal.decreases-loop-b
decreases-loop-b l = length l.rest
