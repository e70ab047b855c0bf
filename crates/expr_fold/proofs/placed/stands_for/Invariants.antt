use Rattle.std.proofs.Common.{◌≡◌, drop}
use Rattle.expr_fold.specs.Placed.{stands_for}
use Rattle.expr_fold.proofs.placed.stands_for.Given as goal

abbrev pub invariant-loop-d : goal.invariant-loop-d
invariant-loop-d l = stands_for (drop l.d-index l.delayed) l.n ≡ stands_for l.delayed l.n
