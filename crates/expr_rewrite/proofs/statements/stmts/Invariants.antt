use Rattle.std.proofs.Common.{take}
use Rattle.expr_rewrite.specs.Pairs.{Pairs}
use Rattle.expr_rewrite.specs.Rewritten.{StandsForStmt}
use Rattle.expr_rewrite.proofs.statements.stmts.Given as goal

abbrev pub invariant-loop-s : goal.invariant-loop-s
invariant-loop-s l = Pairs StandsForStmt (take l.s-index l.all) l.made
