use Rattle.std.proofs.Common.{take}
use Rattle.graph_order.specs.Ends.{AddsOutside}
use Rattle.graph_order.proofs.ends.add_outside.Given as goal

abbrev pub invariant-loop-node : goal.invariant-loop-node
invariant-loop-node l = AddsOutside (take l.node-index l.nodes) l.part l.owners l.initial.outside.items l.outside.items
