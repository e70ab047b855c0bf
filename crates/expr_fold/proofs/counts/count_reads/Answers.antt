use Rattle.std.proofs.Common.{List, subst}
use Rattle.micro_ir.specs.declared.flow.Stmt.{Stmt}
use Rattle.expr_fold.specs.Counts.{reads_of_rest}
use Rattle.expr_fold.specs.Counted.{Notes}
use Rattle.expr_fold.proofs.Counting.{block_noted}
use Rattle.expr_fold.proofs.counts.count_reads.Goals as goal

pub loop-b-preserved : goal.loop-b-preserved
loop-b-preserved c =
    block_noted c.args.blocks.now c.loop-b.b-index c.b-item.result c.loop-b.reads c.note_block.new.self c.loop-b-test.true c.b-item.is
    (subst (λ (ss : List Stmt). Notes (reads_of_rest ss c.b-item.result.end) c.loop-b.reads c.note_block.new.self) c.as_slice.ensures c.in_ok-note_block.ensures) c.loop-b.invariant
