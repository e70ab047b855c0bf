use Rattle.std.proofs.Common.{◌≡◌, drop}
use Rattle.flow_plans.specs.Known.{is_known}
use Rattle.flow_plans.proofs.known.is_known.Given as goal

abbrev pub invariant-loop-b : goal.invariant-loop-b
invariant-loop-b l = is_known l.a (drop l.b-index l.known) ≡ is_known l.a l.known
