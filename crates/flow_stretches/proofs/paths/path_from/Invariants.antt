use Rattle.std.proofs.Common.{◌-◌, ◌<◌, length}
use Rattle.flow_stretches.proofs.Places.{PathTo}
use Rattle.flow_stretches.proofs.paths.path_from.Given as goal

-- the last node is inside, which an index wants
abbrev pub invariant-loop-last : goal.invariant-loop-last
invariant-loop-last l = (l.last < length l.next) × PathTo l.next l.first l.last l.nodes.items

abbrev pub decreases-loop-last : goal.decreases-loop-last
decreases-loop-last l = length l.next - length l.nodes.items
