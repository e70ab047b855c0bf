use Rattle.std.proofs.Common.{◌≡◌, drop}
use Rattle.flow_plans.specs.Checked.{is_covered}
use Rattle.flow_plans.proofs.entries.is_covered.Given as goal

abbrev pub invariant-loop-f : goal.invariant-loop-f
invariant-loop-f l = is_covered l.e (drop l.f-index l.among) ≡ is_covered l.e l.among
