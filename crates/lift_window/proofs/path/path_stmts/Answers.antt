use Rattle.std.proofs.Common.{◌≡◌, ◌<◌, ◌≤◌, [], arith, subst, sym}
use Rattle.lift_window.specs.Walk.{IsWalked}
use Rattle.lift_window.proofs.Walking.{walk_begins, walk_goes_on, walk_over}
use Rattle.lift_window.proofs.path.path_stmts.Goals as goal

pub loop-taken-init : goal.loop-taken-init
loop-taken-init c = λ a win.
    subst (λ ss. IsWalked c.args.m.now c.args.r.now c.args.w.now.path c.args.w.now.jump win.insts 4 c.args.w.now.path ss) (sym c.new-stmts.ensures) (walk_begins c.args.m.now c.args.r.now a c.args.w.now win)

pub loop-taken-preserved : goal.loop-taken-preserved
loop-taken-preserved c = λ a win.
    let lt : c.loop-taken._taken < 4 = c.loop-taken-test.true in
    walk_goes_on c.args.m.now c.args.r.now a c.args.w.now win c.loop-taken._taken c.loop-taken.at c.in_ok-at.at c.loop-taken.stmts c.step.new.stmts lt (c.in_ok-at.ensures {u = tt}) (c.loop-taken.invariant a win)

pub returns : goal.returns
returns c = λ a win.
    let over : 4 ≤ c.loop-taken._taken = c.loop-taken-test.false in
    walk_over c.args.m.now c.args.r.now a c.args.w.now win c.loop-taken._taken c.loop-taken.at c.loop-taken.stmts over (c.loop-taken.invariant a win)
