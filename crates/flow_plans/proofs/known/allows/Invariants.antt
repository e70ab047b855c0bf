use Rattle.std.proofs.Common.{◌≡◌, drop}
use Rattle.flow_plans.specs.Known.{allows}
use Rattle.flow_plans.proofs.known.allows.Given as goal

abbrev pub invariant-loop-b : goal.invariant-loop-b
invariant-loop-b l = allows l.a (drop l.b-index l.known) ≡ allows l.a l.known
