-- Words and Conds that are at most 64 deep, as those of a flow are.
use Rattle.std.specs.Prelude.{Bool, nat_le, ◌&&◌}
use Rattle.c_syntax.specs.declared.syntax.CExpr.{CExpr}
use Rattle.c_syntax.specs.declared.syntax.CCond.{CCond}
use Rattle.c_syntax.specs.Depth.{word_depth, cond_depth}
use Rattle.micro_ir.specs.declared.flow.Stmt.{Stmt}
use Rattle.micro_ir.specs.declared.flow.Stmt.TheVariants as stmt

abbrev pub word_fits : CExpr → Bool
word_fits e = nat_le (word_depth e) 64

abbrev pub cond_fits : CCond → Bool
cond_fits t = nat_le (cond_depth t) 64

-- the words of a statement fit
abbrev pub stmt_fits : Stmt → Bool
stmt_fits (stmt.Set n e) = word_fits e
stmt_fits (stmt.Load n width e) = word_fits e
stmt_fits (stmt.Store width e f) = word_fits e && word_fits f
stmt_fits (stmt.Ext e) = word_fits e
stmt_fits (stmt.Trap vector e) = word_fits e
