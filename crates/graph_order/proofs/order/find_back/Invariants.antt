use Rattle.graph_order.proofs.Orders.{Passes}
use Rattle.graph_order.proofs.order.find_back.Given as goal

abbrev pub invariant-loop-node : goal.invariant-loop-node
invariant-loop-node l = Passes l.g l.order l.node-index l.passed.items
