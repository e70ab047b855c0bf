use Rattle.std.proofs.Common.{◌≡◌, ◌++◌, drop}
use Rattle.flow_plans.specs.Known.{owing}
use Rattle.flow_plans.proofs.entries.owing.Given as goal

abbrev pub invariant-loop-e : goal.invariant-loop-e
invariant-loop-e l = l.all ++ owing (drop l.e-index l.entries) ≡ owing l.entries
