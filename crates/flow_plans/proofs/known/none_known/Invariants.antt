use Rattle.std.proofs.Common.{◌≡◌, drop}
use Rattle.flow_plans.specs.Known.{none_known}
use Rattle.flow_plans.proofs.known.none_known.Given as goal

abbrev pub invariant-loop-a : goal.invariant-loop-a
invariant-loop-a l = none_known (drop l.a-index l.values) l.known ≡ none_known l.values l.known
