use Rattle.std.proofs.Common.{◌≡◌, drop}
use Rattle.flow_plans.specs.Emitted.{or_any}
use Rattle.flow_plans.proofs.test_trees.or_any.Given as goal

abbrev pub invariant-loop-a : goal.invariant-loop-a
invariant-loop-a l = or_any l.all (drop l.a-index l.values) ≡ or_any l.fn.t l.values
