use Rattle.std.proofs.Common.{◌≡◌, drop, map}
use Rattle.c_syntax.specs.Formed.{all}
use Rattle.flow_plans.specs.Fitting.{fits}
use Rattle.flow_plans.proofs.fit.+fits.Given as goal

abbrev pub invariant-all_fit-loop-p : goal.invariant-all_fit-loop-p
invariant-all_fit-loop-p l = all (map fits (drop l.p-index l.plans)) l.breakable ≡ all (map fits l.plans) l.breakable
