use Rattle.std.proofs.Common.{◌≡◌, ◌++◌, drop}
use Rattle.flow_plans.specs.Laws.{zeros}
use Rattle.flow_plans.proofs.tree.zeros.Given as goal

abbrev pub invariant-loop-name : goal.invariant-loop-name
invariant-loop-name l = l.all ++ zeros (drop l.name-index l.names) ≡ zeros l.names
