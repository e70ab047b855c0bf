use Rattle.std.proofs.Common.{take}
use Rattle.graph_order.proofs.Borders.{LeavesTo}
use Rattle.graph_order.proofs.ends.exits_of.Given as goal

abbrev pub invariant-loop-member : goal.invariant-loop-member
invariant-loop-member l = LeavesTo l.g (take l.member-index l.members) l.part l.owners l.exits.items
