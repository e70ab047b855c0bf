use Rattle.expr_fold.proofs.Counting.{NotesRest}
use Rattle.expr_fold.proofs.counts.Reads.note_block.Given as goal

abbrev pub invariant-loop-s : goal.invariant-loop-s
invariant-loop-s l = NotesRest l.stmts l.end l.s-index l.initial.self l.self
