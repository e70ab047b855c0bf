use Rattle.std.proofs.Common.{ℕ, arith, subst}
use Rattle.std.specs.Prelude.{IfSome}
use Rattle.flag_liveness.specs.Before.{live_before_all, live_at}
use Rattle.flag_liveness.specs.Lives.{live_of}
use Rattle.expr_fold.specs.Adds.{Advances}
use Rattle.expr_fold.proofs.Folded.{follows_none, follows_all}
use Rattle.expr_fold.proofs.blocks.statements.Goals as goal

pub loop-at-init : goal.loop-at-init
loop-at-init c =
    let last = live_at c.args.end.now (live_of c.args.live.now) in
    (omega arith, λ seen t. follows_none (live_before_all c.args.stmts.now last) _ _ c.new-folding.ensures.done c.new-folding.ensures.delayed)

pub loop-at-preserved : goal.loop-at-preserved
loop-at-preserved c =
    let last = live_at c.args.end.now (live_of c.args.live.now) in
    let more = subst (λ o. IfSome o (λ (j : ℕ). Advances last c.args.stmts.now c.loop-at.at j c.loop-at.folding c.take_next.new.folding)) c.in-Some.is (c.in_ok-next.ensures {u = tt}) in
    (more.1, more.2 c.loop-at.invariant.1)

pub returns : goal.returns
returns c =
    let last = live_at c.args.end.now (live_of c.args.live.now) in
    follows_all last c.args.stmts.now c.loop-at.at c.loop-at.folding.done c.loop-at.folding.delayed.items c.loop-at-test.false c.loop-at.invariant.0 c.loop-at.invariant.1
