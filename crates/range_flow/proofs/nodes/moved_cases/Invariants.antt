use Rattle.std.proofs.Common.{◌≡◌, map, take}
use Rattle.micro_ir.specs.Laws.{moved_case}
use Rattle.range_flow.specs.Nodes.{node_in}
use Rattle.range_flow.proofs.nodes.moved_cases.Given as goal

abbrev pub invariant-loop-case : goal.invariant-loop-case
invariant-loop-case l = l.moved.items ≡ map (moved_case (node_in l.nodes)) (take l.case-index l.cases)
