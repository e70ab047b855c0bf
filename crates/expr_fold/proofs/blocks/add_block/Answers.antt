use Rattle.std.proofs.Common.{ℕ, subst}
use Rattle.std.specs.Prelude.{IfSome}
use Rattle.micro_ir.specs.declared.flow.Block.{Block}
use Rattle.flag_liveness.specs.Lives.{live_of}
use Rattle.expr_fold.specs.Folds.{LivesAt, FoldsBlock}
use Rattle.expr_fold.proofs.blocks.add_block.Goals as goal

pub returns : goal.returns
returns c =
    let live = live_of c.args.live.now in
    let folds = subst (λ o. IfSome o (λ (x : Block). (k : ℕ) → LivesAt live k c.args.b.now → FoldsBlock live k c.args.b.now x)) c.in-Some.is (c.in_ok-c.ensures {u = tt}) in
    λ t. (c.in-Some.c, (c.in_ok-push.ensures {u = tt}).ok, folds)
