use Rattle.std.proofs.Common.{◌≡◌, drop}
use Rattle.flow_plans.specs.Checked.{all_covered}
use Rattle.flow_plans.proofs.entries.all_covered.Given as goal

abbrev pub invariant-loop-e : goal.invariant-loop-e
invariant-loop-e l = all_covered (drop l.e-index l.entries) l.among ≡ all_covered l.entries l.among
