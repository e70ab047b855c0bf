use Rattle.std.proofs.Common.{◌≡◌, length, refl, ap, ◌∙◌, subst}
use Rattle.std.specs.Prelude.{IsTrue, IfSome}
use Rattle.micro_ir.specs.declared.flow.Block.{Block}
use Rattle.micro_ir.specs.declared.flow.End.{End as BlockEnd}
use Rattle.expr_fold.specs.declared.folding.Folding.{Folding}
use Rattle.expr_fold.specs.Placed.{placed_end}
use Rattle.expr_fold.specs.Follows.{FollowsFirst}
use Rattle.flag_liveness.specs.Before.{live_at}
use Rattle.flag_liveness.specs.Lives.{live_of}
use Rattle.expr_fold.specs.Ends.{end_fits, none_seen_after}
use Rattle.expr_fold.proofs.Made.{block_made}
use Rattle.expr_fold.proofs.blocks.block.Goals as goal

pub returns : goal.returns
returns c =
    let live = live_of c.args.live.now in
    let b = c.args.b.now in
    let folding = c.in-Some.folding in
    let made : Block = record { at = b.at; stmts = folding.done; end = c.in-Some-2.end } in
    let given = c.deref.result.now in
    let ends = c.in_ok-end.ensures {u = tt} in
    let follows = subst (λ o. IfSome o (λ (g : Folding). FollowsFirst (live_at b.end live) b.stmts (length b.stmts) g.done g.delayed.items)) c.in-Some.is (c.in_ok-folding.ensures {u = tt}) in
    let placed = subst (λ o. IfSome o (λ (r : BlockEnd). r ≡ placed_end given b.end)) c.in-Some-2.is ends.placed in
    let fits = subst (λ o. IfSome o (λ (r : BlockEnd). IsTrue (end_fits r))) c.in-Some-2.is ends.fits in
    let unseen = subst (λ o. IfSome o (λ (r : BlockEnd). IsTrue (none_seen_after b.end live given))) c.in-Some-2.is ends.unseen in
    block_made live b made folding.delayed.items c.requires follows refl
    (placed ∙ ap (λ p. placed_end p b.end) c.deref.ensures.value) fits (subst (λ p. IsTrue (none_seen_after b.end live p)) c.deref.ensures.value unseen)
