use Rattle.std.proofs.Common.{◌≡◌, drop}
use Rattle.flow_plans.specs.Checked.{all_are}
use Rattle.flow_plans.proofs.entries.all_are.Given as goal

abbrev pub invariant-loop-e : goal.invariant-loop-e
invariant-loop-e l = all_are l.head l.fn.node (drop l.e-index l.entries) ≡ all_are l.head l.fn.node l.entries
