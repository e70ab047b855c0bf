use Rattle.std.proofs.Common.{◌≡◌, ◌++◌, drop}
use Rattle.flow_plans.specs.Known.{pick_all}
use Rattle.flow_plans.proofs.entries.pick_all.Given as goal

abbrev pub invariant-loop-e : goal.invariant-loop-e
invariant-loop-e l = l.all ++ pick_all l.way l.other (drop l.e-index l.entries) ≡ pick_all l.way l.other l.entries
