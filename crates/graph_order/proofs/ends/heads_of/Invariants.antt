use Rattle.std.proofs.Common.{map, take}
use Rattle.graph_order.specs.Ends.{AreHeads}
use Rattle.graph_order.proofs.ends.heads_of.Given as goal

abbrev pub invariant-loop-member : goal.invariant-loop-member
invariant-loop-member l = AreHeads (take l.member-index l.members) l.part l.bare (map (λ v. v.items) l.arrivals) l.has_bare_cycle l.heads.items
