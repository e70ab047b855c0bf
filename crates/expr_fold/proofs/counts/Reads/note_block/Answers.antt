use Rattle.expr_fold.proofs.Counting.{rest_noted}
use Rattle.expr_fold.proofs.counts.Reads.note_block.Goals as goal

pub loop-s-preserved : goal.loop-s-preserved
loop-s-preserved c =
    rest_noted c.args.stmts.now c.args.end.now c.loop-s.s-index c.s-item.result c.args.self.now c.loop-s.self c.note_stmt.new.self c.loop-s-test.true c.s-item.is c.in_ok-note_stmt.ensures c.loop-s.invariant
