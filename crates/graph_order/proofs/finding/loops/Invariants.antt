use Rattle.std.proofs.Common.{map}
use Rattle.graph_order.proofs.Joined.{PartsUpTo}
use Rattle.graph_order.proofs.finding.loops.Given as goal

abbrev pub invariant-loop-part : goal.invariant-loop-part
invariant-loop-part l = PartsUpTo l.g (map (λ v. v.items) l.all.items) l.part l.parts.items
