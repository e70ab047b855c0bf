use Rattle.std.proofs.Common.{map}
use Rattle.graph_order.proofs.Adding.{ArrivalsUpTo}
use Rattle.graph_order.proofs.arrivals.arrivals.Given as goal

abbrev pub invariant-loop-k : goal.invariant-loop-k
invariant-loop-k l = ArrivalsUpTo l.g l.k (map (λ v. v.items) l.arrivals.items)
