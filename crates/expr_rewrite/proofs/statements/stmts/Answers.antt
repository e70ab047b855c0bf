use Rattle.std.proofs.Common.{◌+◌, sym, take, subst}
use Rattle.expr_rewrite.specs.Pairs.{Pairs}
use Rattle.expr_rewrite.specs.Rewritten.{StandsForStmt}
use Rattle.expr_rewrite.proofs.Pairing.{pairs_step}
use Rattle.expr_rewrite.proofs.statements.stmts.Goals as goal

pub loop-s-preserved : goal.loop-s-preserved
loop-s-preserved c =
    subst (λ made. Pairs StandsForStmt (take (c.loop-s.s-index + 1) c.args.all.now) made) (sym c.in_ok-push.ensures.ok)
    (pairs_step StandsForStmt c.args.all.now c.loop-s.s-index c.s-item.result c.in_ok-stmt.field-0 c.loop-s.made c.loop-s-test.true c.s-item.is c.loop-s.invariant c.in_ok-stmt.ensures)
