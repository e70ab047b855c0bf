use Rattle.std.proofs.Common.{◌≡◌, nat_le, None, map, take}
use Rattle.std.specs.Prelude.{find}
use Rattle.std.specs.List.{concat}
use Rattle.graph_order.proofs.graph.Graph.new.Given as goal

abbrev pub invariant-loop-list : goal.invariant-loop-list
invariant-loop-list l = find (λ n. nat_le l.count n) (concat (take l.list-index (map (λ v. v.items) l.list-items))) ≡ None
