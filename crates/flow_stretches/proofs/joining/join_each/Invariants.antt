use Rattle.std.proofs.Common.{map, take, drop}
use Rattle.flow_stretches.specs.Known.{name_by}
use Rattle.flow_stretches.proofs.Taking.{JoinedUpTo}
use Rattle.flow_stretches.proofs.joining.join_each.Given as goal

abbrev pub invariant-loop-nodes : goal.invariant-loop-nodes
invariant-loop-nodes l = JoinedUpTo l.fn.blocks (name_by l.names) (take l.nodes-index (map (λ v. v.items) l.stretches)) (drop l.nodes-index (map (λ v. v.items) l.stretches)) l.joined.items l.blocks
