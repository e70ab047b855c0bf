use Rattle.std.proofs.Common.{◌≡◌, drop}
use Rattle.flow_plans.specs.Known.{knows}
use Rattle.flow_plans.proofs.known.knows.Given as goal

abbrev pub invariant-loop-a : goal.invariant-loop-a
invariant-loop-a l = knows (drop l.a-index l.first) l.second ≡ knows l.first l.second
