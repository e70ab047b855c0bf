use Rattle.std.proofs.Common.{◌≡◌, drop}
use Rattle.flow_plans.specs.Fitting.{values_fit}
use Rattle.flow_plans.proofs.fit.values_fit.Given as goal

abbrev pub invariant-loop-a : goal.invariant-loop-a
invariant-loop-a l = values_fit (drop l.a-index l.values) ≡ values_fit l.values
