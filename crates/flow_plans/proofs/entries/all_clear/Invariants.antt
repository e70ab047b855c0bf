use Rattle.std.proofs.Common.{◌≡◌, drop}
use Rattle.flow_plans.specs.Checked.{all_clear}
use Rattle.flow_plans.proofs.entries.all_clear.Given as goal

abbrev pub invariant-loop-e : goal.invariant-loop-e
invariant-loop-e l = all_clear (drop l.e-index l.entries) ≡ all_clear l.entries
