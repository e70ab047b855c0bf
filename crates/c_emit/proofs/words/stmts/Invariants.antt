use Rattle.std.proofs.Common.{◌≡◌, ◌++◌, map, drop}
use Rattle.c_emit.specs.Emitted.{new_name, stmt_of}
use Rattle.c_emit.proofs.words.stmts.Given as goal

abbrev pub invariant-loop-s : goal.invariant-loop-s
invariant-loop-s l = l.body ++ map (stmt_of (new_name l.l)) (drop l.s-index l.all) ≡ map (stmt_of (new_name l.l)) l.all
