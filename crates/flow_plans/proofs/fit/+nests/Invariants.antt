use Rattle.std.proofs.Common.{◌≡◌, nat_le, drop, map}
use Rattle.c_syntax.specs.Depth.{deepest}
use Rattle.flow_plans.specs.Fitting.{nest}
use Rattle.flow_plans.proofs.fit.+nests.Given as goal

abbrev pub invariant-all_within-loop-p : goal.invariant-all_within-loop-p
invariant-all_within-loop-p l = nat_le (deepest (map nest (drop l.p-index l.plans))) l.most ≡ nat_le (deepest (map nest l.plans)) l.most
