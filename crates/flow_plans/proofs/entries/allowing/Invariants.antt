use Rattle.std.proofs.Common.{◌≡◌, ◌++◌, drop}
use Rattle.flow_plans.specs.Known.{allows_any, only}
use Rattle.flow_plans.proofs.entries.allowing.Given as goal

abbrev pub invariant-loop-e : goal.invariant-loop-e
invariant-loop-e l = l.all ++ only (allows_any l.values) (drop l.e-index l.entries) ≡ only (allows_any l.values) l.entries
