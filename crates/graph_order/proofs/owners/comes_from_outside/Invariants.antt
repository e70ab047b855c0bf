use Rattle.std.proofs.Common.{ℕ, ◌<◌, get_or}
use Rattle.graph_order.specs.Owners.{StandsIn}
use Rattle.graph_order.proofs.owners.comes_from_outside.Given as goal

abbrev pub invariant-loop-node : goal.invariant-loop-node
invariant-loop-node l = (k d : ℕ) → k < l.node-index → StandsIn l.owners (get_or l.nodes k d) l.part
