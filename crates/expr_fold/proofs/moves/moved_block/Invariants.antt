use Rattle.std.proofs.Common.{length}
use Rattle.expr_fold.specs.Counted.{once_of}
use Rattle.expr_fold.proofs.Walked.{Takes}
use Rattle.expr_fold.proofs.moves.moved_block.Given as goal

abbrev pub invariant-loop-s : goal.invariant-loop-s
invariant-loop-s l = Takes (once_of l.reads) l.initial.rest l.rest l.initial.tail l.tail

abbrev pub decreases-loop-s : goal.decreases-loop-s
decreases-loop-s l = length l.rest
