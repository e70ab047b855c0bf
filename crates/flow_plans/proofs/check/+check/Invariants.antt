use Rattle.std.proofs.Common.{◌≡◌, drop, map}
use Rattle.flow_plans.specs.Checked.{all_pass, checked, head_in}
use Rattle.flow_plans.proofs.check.+check.Given as goal

abbrev pub invariant-all_checked-loop-p : goal.invariant-all_checked-loop-p
invariant-all_checked-loop-p l =
    all_pass (map (checked l.blocks (head_in l.heads)) (drop l.p-index l.plans)) l.out l.entries
    ≡ all_pass (map (checked l.blocks (head_in l.heads)) l.plans) l.out l.before
