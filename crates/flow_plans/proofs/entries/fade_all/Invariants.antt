use Rattle.std.proofs.Common.{◌≡◌, ◌++◌, drop}
use Rattle.flow_plans.specs.Known.{fade_all}
use Rattle.flow_plans.proofs.entries.fade_all.Given as goal

abbrev pub invariant-loop-e : goal.invariant-loop-e
invariant-loop-e l = l.all ++ fade_all l.name (drop l.e-index l.entries) ≡ fade_all l.name l.entries
