use Rattle.std.proofs.Common.{◌+◌, length}
use Rattle.graph_order.specs.Marks.{unmarked}
use Rattle.graph_order.proofs.Reached.{Searches}
use Rattle.graph_order.proofs.visits.reach.Given as goal

abbrev pub invariant-loop-node : goal.invariant-loop-node
invariant-loop-node l = Searches l.g l.reached.items l.waiting.items

abbrev pub decreases-loop-node : goal.decreases-loop-node
decreases-loop-node l = unmarked l.reached.items + length l.waiting.items
