use Rattle.std.proofs.Common.{◌≡◌, drop}
use Rattle.flow_plans.specs.Checked.{all_heads, head_in}
use Rattle.flow_plans.proofs.entries.all_heads.Given as goal

abbrev pub invariant-loop-e : goal.invariant-loop-e
invariant-loop-e l = all_heads (head_in l.heads) (drop l.e-index l.entries) ≡ all_heads (head_in l.heads) l.entries
