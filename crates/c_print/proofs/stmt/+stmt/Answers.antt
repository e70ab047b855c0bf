use Rattle.std.proofs.Common.{ap, ◌∙◌, map, ◌++◌, ◌+◌}
use Rattle.std.specs.Prelude.{codes}
use Rattle.c_syntax.specs.Text.{all, stmt_text, group_text, indent}
use Rattle.c_print.specs.Page.{puts}
use Rattle.c_print.proofs.Loops.{all_more, arms_more}
use Rattle.c_print.proofs.Levels.{next_level}
use Rattle.c_print.proofs.Shows.{then}
use Rattle.c_print.proofs.stmt.+stmt.Goals as goal

pub put_body-returns : goal.put_body-returns
put_body-returns t c =
    let level = c.args.level in
    let inside = all (map stmt_text c.args.stmts.now) (level + 1) in
    let deeper = c.put_all.ensures ∙ ap (puts c.put.new.self) (next_level c.args.stmts.now level c.saturating_add.result c.saturating_add.ensures) in
    then _ _ _ (codes "{\n" ++ inside ++ indent level) (codes "}")
    (then _ _ _ (codes "{\n" ++ inside) (indent level) (then _ c.put.new.self _ (codes "{\n") inside c.put.ensures deeper) c.put_indent.ensures) c.put-2.ensures

pub put_all-loop-s-preserved : goal.put_all-loop-s-preserved
put_all-loop-s-preserved t c =
    all_more stmt_text c.args.level c.args.stmts.now c.loop-s.s-index c.s-item.result _ _ _ c.loop-s-test.true c.s-item.is c.put_stmt.ensures c.loop-s.invariant

pub put_groups-loop-group-preserved : goal.put_groups-loop-group-preserved
put_groups-loop-group-preserved t c =
    all_more group_text c.args.level c.args.groups.now c.loop-group.group-index c.group-item.result _ _ _ c.loop-group-test.true c.group-item.is c.put_group.ensures c.loop-group.invariant

pub put_arms-loop-arm-preserved : goal.put_arms-loop-arm-preserved
put_arms-loop-arm-preserved t c =
    arms_more c.loop-arm.sign.now c.args.level c.args.arms.now c.loop-arm.arm-index c.arm-item.result c.loop-arm.page c.put.new.self _ _ c.loop-arm-test.true c.arm-item.is c.put.ensures c.put_arm.ensures c.loop-arm.invariant
