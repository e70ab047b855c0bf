use Rattle.std.proofs.Common.{sym, ◌∙◌}
use Rattle.flag_liveness.specs.Before.{live_at}
use Rattle.flag_liveness.specs.Lives.{live_of}
use Rattle.expr_fold.proofs.Named.{not_true}
use Rattle.expr_fold.proofs.Losing.{lost_more, lost_last}
use Rattle.expr_fold.proofs.loads.is_lost.Goals as goal

pub loop-s-preserved : goal.loop-s-preserved
loop-s-preserved c =
    lost_more (live_at c.args.end.now (live_of c.args.live.now)) c.args.stmts.now c.loop-s.s-index c.s-item.result c.args.t c.loop-s-test.true c.s-item.is (sym c.stmt_reads.ensures ∙ c.if-stmt_reads.false) c.loop-s.invariant

pub returns : goal.returns
returns c =
    λ t. lost_last (live_at c.args.end.now (live_of c.args.live.now)) c.args.stmts.now c.loop-s.s-index c.args.t c.loop-s-test.false c.loop-s.auto.s-index-end (sym c.is_live_at.ensures ∙ not_true c.is_live_at.result t) c.loop-s.invariant
