use Rattle.std.proofs.Common.{◌≡◌, drop}
use Rattle.flow_plans.specs.Known.{common_all}
use Rattle.flow_plans.proofs.entries.common_all.Given as goal

abbrev pub invariant-loop-e : goal.invariant-loop-e
invariant-loop-e l = common_all l.all (drop l.e-index l.entries) ≡ common_all l.fn.known l.entries
