use Rattle.std.proofs.Common.{◌≡◌, map, take}
use Rattle.micro_ir.specs.Laws.{moved_case}
use Rattle.flow_stretches.specs.Known.{name_by}
use Rattle.flow_stretches.proofs.joining.renamed_cases.Given as goal

abbrev pub invariant-loop-case : goal.invariant-loop-case
invariant-loop-case l = l.renamed.items ≡ map (moved_case (name_by l.names)) (take l.case-index l.cases)
