use Rattle.std.proofs.Common.{◌≡◌, drop}
use Rattle.c_emit.specs.Gathered.{with_stmts}
use Rattle.c_emit.proofs.gather.stmts.Given as goal

abbrev pub invariant-loop-s : goal.invariant-loop-s
invariant-loop-s l = with_stmts (drop l.s-index l.all) l.l ≡ with_stmts l.all l.fn.l
