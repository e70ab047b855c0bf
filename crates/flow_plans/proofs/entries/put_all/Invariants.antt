use Rattle.std.proofs.Common.{◌≡◌, ◌++◌, drop}
use Rattle.flow_plans.specs.Known.{put_all}
use Rattle.flow_plans.proofs.entries.put_all.Given as goal

abbrev pub invariant-loop-e : goal.invariant-loop-e
invariant-loop-e l = l.all ++ put_all l.name l.value (drop l.e-index l.entries) ≡ put_all l.name l.value l.entries
