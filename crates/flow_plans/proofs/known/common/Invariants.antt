use Rattle.std.proofs.Common.{◌≡◌, ◌++◌, drop}
use Rattle.flow_plans.specs.Known.{common}
use Rattle.flow_plans.proofs.known.common.Given as goal

abbrev pub invariant-loop-a : goal.invariant-loop-a
invariant-loop-a l = l.both ++ common (drop l.a-index l.known) l.other ≡ common l.known l.other
