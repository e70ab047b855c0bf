use Rattle.std.proofs.Common.{map, take}
use Rattle.graph_order.specs.Arrivals.{AddsTo}
use Rattle.graph_order.proofs.lists.add_to.Given as goal

abbrev pub invariant-loop-target : goal.invariant-loop-target
invariant-loop-target l = AddsTo l.from (take l.target-index l.targets) (map (λ v. v.items) l.initial.lists) (map (λ v. v.items) l.lists)
