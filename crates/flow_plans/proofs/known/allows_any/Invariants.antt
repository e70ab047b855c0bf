use Rattle.std.proofs.Common.{◌≡◌, drop}
use Rattle.flow_plans.specs.Known.{allows_any}
use Rattle.flow_plans.proofs.known.allows_any.Given as goal

abbrev pub invariant-loop-a : goal.invariant-loop-a
invariant-loop-a l = allows_any (drop l.a-index l.values) l.known ≡ allows_any l.values l.known
