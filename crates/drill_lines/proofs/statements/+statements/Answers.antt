use Rattle.guarded.specs.Counts.{c_stmt_count, c_arm_count, c_group_count}
use Rattle.drill_lines.specs.Statements.{weights_of}
use Rattle.drill_lines.proofs.Weighed.{all_counted}
use Rattle.drill_lines.proofs.statements.+statements.Goals as goal

pub count_all-returns : goal.count_all-returns
count_all-returns t c = all_counted (c_stmt_count (weights_of c.args.kind)) c.args.stmts.now c.loop-s.s-index c.loop-s.count _ c.loop-s-test.false c.loop-s.invariant.small c.loop-s.invariant.counted

pub count_arms-returns : goal.count_arms-returns
count_arms-returns t c = all_counted (c_arm_count (weights_of c.args.kind)) c.args.arms.now c.loop-arm.arm-index c.loop-arm.count _ c.loop-arm-test.false c.loop-arm.invariant.small c.loop-arm.invariant.counted

pub count_groups-returns : goal.count_groups-returns
count_groups-returns t c =
    all_counted (c_group_count (weights_of c.args.kind)) c.args.groups.now c.loop-group.group-index c.loop-group.count _ c.loop-group-test.false c.loop-group.invariant.small c.loop-group.invariant.counted
