use Rattle.std.proofs.Common.{◌≡◌, ◌++◌, drop}
use Rattle.flow_plans.specs.Known.{none_known, only}
use Rattle.flow_plans.proofs.entries.missing.Given as goal

abbrev pub invariant-loop-e : goal.invariant-loop-e
invariant-loop-e l = l.all ++ only (none_known l.values) (drop l.e-index l.entries) ≡ only (none_known l.values) l.entries
