use Rattle.std.proofs.Common.{refl, sym, ◌∙◌}
use Rattle.c_conds.proofs.Alike.{follow_same, like_nil}
use Rattle.c_conds.proofs.Walking.{set_kept, load_kept, store_kept, ext_kept, trap_kept, loop_kept, while_kept, do_kept, switch_kept, if_none_kept, if_some_kept, arm_kept, group_kept, stmts_more, arms_more, groups_more, all_stmts, all_arms, all_groups}
use Rattle.c_conds.proofs.statements.+with_conds.Goals as goal

pub stmt-returns-in_ok-e-in-Set : goal.stmt-returns-in_ok-e-in-Set
stmt-returns-in_ok-e-in-Set t c = set_kept c.args.before.now c.args.s.now c.in-Set.n c.in-Set.e c.in_ok-e-in-Set.e c.in-Set.is c.in_ok-e-in-Set.ensures

pub stmt-returns-in_ok-e-in-Load : goal.stmt-returns-in_ok-e-in-Load
stmt-returns-in_ok-e-in-Load t c = load_kept c.args.before.now c.args.s.now c.in-Load.n c.in-Load.width c.in-Load.e c.in_ok-e-in-Load.e c.in-Load.is c.in_ok-e-in-Load.ensures

pub stmt-returns-in_ok-v-in-Store : goal.stmt-returns-in_ok-v-in-Store
stmt-returns-in_ok-v-in-Store t c =
    store_kept c.args.before.now c.args.s.now c.in-Store.width c.in-Store.e c.in_ok-e-in-Store.e c.in-Store.v c.in_ok-v-in-Store.v c.in-Store.is c.in_ok-e-in-Store.ensures c.in_ok-v-in-Store.ensures

pub stmt-returns-in_ok-e-in-Ext : goal.stmt-returns-in_ok-e-in-Ext
stmt-returns-in_ok-e-in-Ext t c = ext_kept c.args.before.now c.args.s.now c.in-Ext.e c.in_ok-e-in-Ext.e c.in-Ext.is c.in_ok-e-in-Ext.ensures

pub stmt-returns-in_ok-e-in-Trap : goal.stmt-returns-in_ok-e-in-Trap
stmt-returns-in_ok-e-in-Trap t c = trap_kept c.args.before.now c.args.s.now c.in-Trap.vector c.in-Trap.e c.in_ok-e-in-Trap.e c.in-Trap.is c.in_ok-e-in-Trap.ensures

pub stmt-returns-in-None : goal.stmt-returns-in-None
stmt-returns-in-None t c =
    if_none_kept c.args.before.now c.args.s.now c.in-If.arms c.as_slice.result.now c.in_ok-arms-in-If.arms c.in-If.last c.in-If.is c.in-None.is c.as_slice.ensures c.in_ok-arms-in-If.ensures

pub stmt-returns-in_ok-body-in-Some : goal.stmt-returns-in_ok-body-in-Some
stmt-returns-in_ok-body-in-Some t c =
    if_some_kept c.args.before.now c.args.s.now c.in-If.arms c.as_slice.result.now c.in_ok-arms-in-If.arms c.in-If.last c.in-Some.body c.as_slice-in-Some.result.now c.in_ok-body-in-Some.body
    c.in-If.is c.in-Some.is c.as_slice.ensures c.in_ok-arms-in-If.ensures c.as_slice-in-Some.ensures c.in_ok-body-in-Some.ensures

pub stmt-returns-in_ok-last-in-Switch : goal.stmt-returns-in_ok-last-in-Switch
stmt-returns-in_ok-last-in-Switch t c =
    switch_kept c.args.before.now c.args.s.now c.in-Switch.e c.in_ok-e-in-Switch.e c.in-Switch.groups c.as_slice-in-Switch.result.now c.in_ok-groups-in-Switch.groups c.in-Switch.last c.as_slice-in-Switch-2.result.now c.in_ok-last-in-Switch.last
    c.in-Switch.is c.in_ok-e-in-Switch.ensures c.as_slice-in-Switch.ensures c.in_ok-groups-in-Switch.ensures c.as_slice-in-Switch-2.ensures c.in_ok-last-in-Switch.ensures

pub stmt-returns-in_ok-body-in-Loop : goal.stmt-returns-in_ok-body-in-Loop
stmt-returns-in_ok-body-in-Loop t c = loop_kept c.args.before.now c.args.s.now c.in-Loop.body c.as_slice-in-Loop.result.now c.in_ok-body-in-Loop.body c.in-Loop.is c.as_slice-in-Loop.ensures c.in_ok-body-in-Loop.ensures

pub stmt-returns-in_ok-body-in-While : goal.stmt-returns-in_ok-body-in-While
stmt-returns-in_ok-body-in-While t c =
    while_kept c.args.before.now c.args.s.now c.in-While.t c.in_ok-t-in-While.t c.in-While.body c.as_slice-in-While.result.now c.in_ok-body-in-While.body
    c.in-While.is c.in_ok-t-in-While.ensures c.as_slice-in-While.ensures c.in_ok-body-in-While.ensures

pub stmt-returns-in_ok-t-in-DoWhile : goal.stmt-returns-in_ok-t-in-DoWhile
stmt-returns-in_ok-t-in-DoWhile t c =
    do_kept c.args.before.now c.args.s.now c.in-DoWhile.body c.as_slice-in-DoWhile.result.now c.in_ok-body-in-DoWhile.body c.as_slice-in-DoWhile-2.result.now c.in-DoWhile.t c.in_ok-t-in-DoWhile.t
    c.in-DoWhile.is c.as_slice-in-DoWhile.ensures c.in_ok-body-in-DoWhile.ensures c.as_slice-in-DoWhile-2.ensures c.in_ok-t-in-DoWhile.ensures

pub stmt-returns-in-Break : goal.stmt-returns-in-Break
stmt-returns-in-Break t c = follow_same c.args.before.now c.args.s.now _ (sym c.in-Break.is)

pub stmt-returns-in-Return : goal.stmt-returns-in-Return
stmt-returns-in-Return t c = follow_same c.args.before.now c.args.s.now _ (sym c.in-Return.is)

pub stmts-loop-s-preserved : goal.stmts-loop-s-preserved
stmts-loop-s-preserved t c =
    stmts_more c.args.body.now c.loop-s.s-index c.s-item.result c.in_ok-t.t c.loop-s.kept c.as_slice.result.now _ c.loop-s-test.true c.s-item.is c.loop-s.invariant c.as_slice.ensures c.in_ok-t.ensures c.in_ok-push.ensures.ok

pub stmts-returns : goal.stmts-returns
stmts-returns t c = all_stmts c.args.body.now c.loop-s.s-index c.loop-s.kept c.loop-s-test.false c.loop-s.invariant

pub in_arms-loop-a-preserved : goal.in_arms-loop-a-preserved
in_arms-loop-a-preserved t c =
    arms_more c.args.before.now c.args.arms.now c.loop-a.a-index c.a-item.result _ c.loop-a.kept _ c.loop-a-test.true c.a-item.is c.loop-a.invariant
    (arm_kept c.args.before.now c.a-item.result c.in_ok-test.test c.as_slice.result.now c.in_ok-body.body c.in_ok-test.ensures c.as_slice.ensures c.in_ok-body.ensures) c.in_ok-push.ensures.ok

pub in_arms-returns : goal.in_arms-returns
in_arms-returns t c = all_arms c.args.before.now c.args.arms.now c.loop-a.a-index c.loop-a.kept c.loop-a-test.false c.loop-a.invariant

pub in_groups-loop-g-preserved : goal.in_groups-loop-g-preserved
in_groups-loop-g-preserved t c =
    groups_more c.args.groups.now c.loop-g.g-index c.g-item.result _ c.loop-g.kept _ c.loop-g-test.true c.g-item.is c.loop-g.invariant
    (group_kept c.g-item.result c.in_ok-values.values c.as_slice-in-loop-g.result.now c.in_ok-body.body (c.in_ok-values.ensures ∙ c.as_slice.ensures) c.as_slice-in-loop-g.ensures c.in_ok-body.ensures) c.in_ok-push.ensures.ok

pub in_groups-returns : goal.in_groups-returns
in_groups-returns t c = all_groups c.args.groups.now c.loop-g.g-index c.loop-g.kept c.loop-g-test.false c.loop-g.invariant
