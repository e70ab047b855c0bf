-- Words, Conds and statements in which delayed words stand in the place of their names.
use Rattle.std.specs.Prelude.{List, [], ◌∷◌, if◌then◌else◌}
use Rattle.dream_words.specs.declared.machine.Name.{Name}
use Rattle.c_syntax.specs.declared.syntax.CExpr.{CExpr, CExpr-F, roll-CExpr, fold-CExpr}
use Rattle.c_syntax.specs.declared.syntax.CCond.{CCond, CCond-F, roll-CCond, fold-CCond}
use Rattle.micro_ir.specs.declared.flow.Stmt.{Stmt}
use Rattle.micro_ir.specs.declared.flow.Stmt.TheVariants as stmt
use Rattle.micro_ir.specs.declared.flow.End.{End as BlockEnd}
use Rattle.micro_ir.specs.declared.flow.End.TheVariants as end
use Rattle.flow_passes.specs.Uses.{same_name}
use Rattle.expr_fold.specs.declared.delayed.Delayed.{Delayed}

-- the word that a name stands for: its delayed word, or the name
abbrev pub stands_for : List Delayed → Name → CExpr
stands_for [] n = roll-CExpr (CExpr-F.Name n)
stands_for (d ∷ ds) n = if same_name d.name n then d.word else stands_for ds n

abbrev pub placed_word_at : List Delayed → CExpr-F CCond CExpr → CExpr
placed_word_at p (CExpr-F.Num n) = roll-CExpr (CExpr-F.Num n)
placed_word_at p (CExpr-F.Name n) = stands_for p n
placed_word_at p (CExpr-F.«CExpr::Not» a) = roll-CExpr (CExpr-F.«CExpr::Not» a)
placed_word_at p (CExpr-F.Bin op a b) = roll-CExpr (CExpr-F.Bin op a b)
placed_word_at p (CExpr-F.Fn1 g a) = roll-CExpr (CExpr-F.Fn1 g a)
placed_word_at p (CExpr-F.Fn2 g a b) = roll-CExpr (CExpr-F.Fn2 g a b)
placed_word_at p (CExpr-F.Fn3 g a b c) = roll-CExpr (CExpr-F.Fn3 g a b c)
placed_word_at p (CExpr-F.Pick t a b) = roll-CExpr (CExpr-F.Pick t a b)

abbrev pub placed_cond_at : CCond-F CCond CExpr → CCond
placed_cond_at (CCond-F.Cmp op a b) = roll-CCond (CCond-F.Cmp op a b)
placed_cond_at (CCond-F.«CCond::Not» t) = roll-CCond (CCond-F.«CCond::Not» t)
placed_cond_at (CCond-F.And t u) = roll-CCond (CCond-F.And t u)
placed_cond_at (CCond-F.Or t u) = roll-CCond (CCond-F.Or t u)

-- a Word, and a Cond
abbrev pub placed_word : List Delayed → CExpr → CExpr
placed_word p = fold-CExpr CCond CExpr placed_cond_at (placed_word_at p)

abbrev pub placed_cond : List Delayed → CCond → CCond
placed_cond p = fold-CCond CCond CExpr placed_cond_at (placed_word_at p)

-- a statement
abbrev pub placed_stmt : List Delayed → Stmt → Stmt
placed_stmt p (stmt.Set n e) = stmt.Set n (placed_word p e)
placed_stmt p (stmt.Load n width e) = stmt.Load n width (placed_word p e)
placed_stmt p (stmt.Store width e f) = stmt.Store width (placed_word p e) (placed_word p f)
placed_stmt p (stmt.Ext e) = stmt.Ext (placed_word p e)
placed_stmt p (stmt.Trap vector e) = stmt.Trap vector (placed_word p e)

-- an end
abbrev pub placed_end : List Delayed → BlockEnd → BlockEnd
placed_end p (end.Go a) = end.Go a
placed_end p (end.Branch t a b) = end.Branch (placed_cond p t) a b
placed_end p (end.Switch e cases) = end.Switch (placed_word p e) cases
placed_end p end.Return = end.Return
placed_end p (end.Leave e) = end.Leave (placed_word p e)
