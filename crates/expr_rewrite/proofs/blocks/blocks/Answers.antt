use Rattle.std.proofs.Common.{◌+◌, sym, take, subst}
use Rattle.expr_rewrite.specs.Pairs.{Pairs}
use Rattle.expr_rewrite.specs.Rewritten.{StandsForBlock}
use Rattle.expr_rewrite.proofs.Pairing.{pairs_step}
use Rattle.expr_rewrite.proofs.blocks.blocks.Goals as goal

pub loop-b-preserved : goal.loop-b-preserved
loop-b-preserved c =
    subst (λ made. Pairs StandsForBlock (take (c.loop-b.b-index + 1) c.args.all.now) made) (sym c.in_ok-push.ensures.ok)
    (pairs_step StandsForBlock c.args.all.now c.loop-b.b-index c.b-item.result c.in_ok-block.field-0 c.loop-b.made c.loop-b-test.true c.b-item.is c.loop-b.invariant c.in_ok-block.ensures)
