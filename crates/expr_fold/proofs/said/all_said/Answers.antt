use Rattle.std.proofs.Common.{refl, subst}
use Rattle.std.specs.Prelude.{IfSome}
use Rattle.c_syntax.specs.declared.syntax.CExpr.{CExpr}
use Rattle.expr_fold.specs.Said.{IsSaid}
use Rattle.expr_fold.proofs.Lists.{said_next, said_all}
use Rattle.expr_fold.proofs.said.all_said.Goals as goal

pub loop-x-preserved : goal.loop-x-preserved
loop-x-preserved c =
    let is_said = subst (λ o. IfSome o (λ (r : CExpr). IsSaid c.args.d.now c.x-item.result.word r)) c.in-Some.is (c.in_ok-word.ensures {u = tt}) in
    said_next c.args.d.now c.args.delayed.now c.loop-x.x-index c.x-item.result (record { name = c.x-item.result.name; word = c.in-Some.word }) c.loop-x.made.items c.push.new.self.items c.loop-x-test.true c.x-item.is
    c.in_ok-push.ensures.items refl is_said c.loop-x.invariant

pub returns : goal.returns
returns c = said_all c.args.d.now c.args.delayed.now c.loop-x.x-index c.loop-x.made.items c.loop-x-test.false c.loop-x.auto.x-index-end c.loop-x.invariant
