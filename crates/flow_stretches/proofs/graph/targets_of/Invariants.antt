use Rattle.std.proofs.Common.{◌≡◌, map, take}
use Rattle.flow_stretches.proofs.graph.targets_of.Given as goal

abbrev pub invariant-loop-case : goal.invariant-loop-case
invariant-loop-case l = l.nodes.items ≡ map (λ c. c.to) (take l.case-index l.cases)
