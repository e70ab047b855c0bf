use Rattle.expr_fold.specs.Counted.{once_of}
use Rattle.expr_fold.proofs.Walked.{takes_one}
use Rattle.expr_fold.proofs.moves.moved_block.Goals as goal

pub loop-s-preserved : goal.loop-s-preserved
loop-s-preserved c = takes_one (once_of c.args.reads.now) c.args.b.stmts c.loop-s.rest c.pop.new.self c.in-Some.s (record { back = c.new.result; end = c.args.b.end }) c.loop-s.tail c.take.new.self c.loop-s.invariant c.in-Some.ensures c.in_ok-take.ensures
