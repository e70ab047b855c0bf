use Rattle.std.proofs.Common.{take}
use Rattle.graph_order.specs.Owners.{Owns}
use Rattle.graph_order.proofs.owners.own.Given as goal

abbrev pub invariant-loop-member : goal.invariant-loop-member
invariant-loop-member l = Owns (take l.member-index l.members) l.part l.initial.owners l.owners
