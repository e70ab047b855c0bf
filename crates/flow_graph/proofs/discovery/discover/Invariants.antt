use Rattle.std.proofs.Common.{◌-◌, map, length}
use Rattle.flow_graph.proofs.Walked.{IsWalked}
use Rattle.flow_graph.proofs.discovery.discover.Given as goal

-- what the walk has found
abbrev pub invariant-loop-at : goal.invariant-loop-at
invariant-loop-at l = IsWalked l.m l.r l.walk.places.keys (map (λ v. v.items) l.walk.lists.items) l.walk.named

-- a turn for each address of the range at most
abbrev pub decreases-loop-at : goal.decreases-loop-at
decreases-loop-at l = l.r.size - length l.walk.lists.items
