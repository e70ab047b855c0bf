use Rattle.std.proofs.Common.{◌≡◌, drop}
use Rattle.expr_fold.specs.Delayed.{none_reads}
use Rattle.expr_fold.proofs.folding.none_reads.Given as goal

abbrev pub invariant-loop-d : goal.invariant-loop-d
invariant-loop-d l = none_reads (drop l.d-index l.delayed) l.n ≡ none_reads l.delayed l.n
