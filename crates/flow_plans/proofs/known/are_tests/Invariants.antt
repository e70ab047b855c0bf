use Rattle.std.proofs.Common.{◌≡◌, drop}
use Rattle.flow_plans.specs.Known.{are_tests}
use Rattle.flow_plans.proofs.known.are_tests.Given as goal

abbrev pub invariant-loop-a : goal.invariant-loop-a
invariant-loop-a l = are_tests (drop l.a-index l.values) ≡ are_tests l.values
