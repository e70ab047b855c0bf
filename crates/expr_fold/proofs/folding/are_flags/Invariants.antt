use Rattle.std.proofs.Common.{◌≡◌, drop}
use Rattle.expr_fold.specs.Delayed.{are_flags}
use Rattle.expr_fold.proofs.folding.are_flags.Given as goal

abbrev pub invariant-loop-d : goal.invariant-loop-d
invariant-loop-d l = are_flags (drop l.d-index l.delayed) ≡ are_flags l.delayed
