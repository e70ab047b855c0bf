use Rattle.expr_fold.specs.Counted.{once_of}
use Rattle.expr_fold.proofs.Walked.{makes_one}
use Rattle.expr_fold.proofs.moves.moved_blocks.Goals as goal

pub loop-b-preserved : goal.loop-b-preserved
loop-b-preserved c =
    makes_one (once_of c.args.reads.now) c.args.blocks c.loop-b.rest c.pop.new.self c.loop-b.made.items c.push.new.self.items c.in-Some.b c.in_ok-moved_block.field-0 c.loop-b.invariant c.in-Some.ensures c.in_ok-moved_block.ensures c.in_ok-push.ensures.items
