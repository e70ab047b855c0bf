use Rattle.std.proofs.Common.{◌<◌, length}
use Rattle.std.specs.Prelude.{IfSome}
use Rattle.expr_fold.proofs.order.next_chosen.Given as goal

abbrev pub invariant-loop-at : goal.invariant-loop-at
invariant-loop-at l = IfSome l.last (λ at. at < length l.delayed) × IfSome l.temporary (λ at. at < length l.delayed)
