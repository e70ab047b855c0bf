use Rattle.std.proofs.Common.{length, subst}
use Rattle.std.specs.Prelude.{IfSome}
use Rattle.expr_fold.specs.declared.folding.Folding.{Folding}
use Rattle.flag_liveness.specs.Before.{live_at}
use Rattle.flag_liveness.specs.Lives.{live_of}
use Rattle.expr_fold.specs.Follows.{FollowsFirst}
use Rattle.expr_fold.proofs.Made.{follows_waiting}
use Rattle.expr_fold.proofs.blocks.closed.Goals as goal

pub returns : goal.returns
returns c =
    let old = c.in-Some.folding in
    let new = c.close.new.folding in
    let last = live_at c.args.b.now.end (live_of c.args.live.now) in
    let given = c.as_slice.result.now in
    let follows = subst (λ o. IfSome o (λ (g : Folding). FollowsFirst last given (length given) g.done g.delayed.items)) c.in-Some.is (c.in_ok-folding.ensures {u = tt}) in
    follows_waiting last c.args.b.now.stmts (length c.args.b.now.stmts) old.done old.delayed.items new.done new.delayed.items
    (subst (λ ss. FollowsFirst last ss (length ss) old.done old.delayed.items) c.as_slice.ensures follows) (c.in_ok-close.ensures {u = tt})
