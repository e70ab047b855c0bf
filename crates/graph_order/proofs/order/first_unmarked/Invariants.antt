use Rattle.std.proofs.Common.{◌<◌, ℕ, get_or}
use Rattle.graph_order.specs.Graph.{IsMarked}
use Rattle.graph_order.proofs.order.first_unmarked.Given as goal

abbrev pub invariant-loop-node : goal.invariant-loop-node
invariant-loop-node l = (k d : ℕ) → k < l.node-index → IsMarked l.marks (get_or l.nodes k d)
