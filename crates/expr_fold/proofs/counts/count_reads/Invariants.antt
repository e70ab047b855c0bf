use Rattle.expr_fold.proofs.Counting.{CountsRest}
use Rattle.expr_fold.proofs.counts.count_reads.Given as goal

abbrev pub invariant-loop-b : goal.invariant-loop-b
invariant-loop-b l = CountsRest l.blocks l.b-index l.reads
