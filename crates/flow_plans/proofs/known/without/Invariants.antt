use Rattle.std.proofs.Common.{◌≡◌, ◌++◌, drop}
use Rattle.flow_plans.specs.Known.{without}
use Rattle.flow_plans.proofs.known.without.Given as goal

abbrev pub invariant-loop-a : goal.invariant-loop-a
invariant-loop-a l = l.rest ++ without l.name (drop l.a-index l.known) ≡ without l.name l.known
