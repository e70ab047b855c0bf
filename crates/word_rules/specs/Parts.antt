-- How many parts a Word and a Cond have: the Words and Conds in them, themselves included.
use Rattle.std.specs.Prelude.{ℕ, ◌+◌}
use Rattle.c_syntax.specs.declared.syntax.CExpr.{CExpr, CExpr-F, fold-CExpr}
use Rattle.c_syntax.specs.declared.syntax.CCond.{CCond, CCond-F, fold-CCond}

abbrev pub word_parts_at : CExpr-F ℕ ℕ → ℕ
word_parts_at (CExpr-F.Num n) = 1
word_parts_at (CExpr-F.Name n) = 1
word_parts_at (CExpr-F.«CExpr::Not» a) = a + 1
word_parts_at (CExpr-F.Bin op a b) = a + b + 1
word_parts_at (CExpr-F.Fn1 g a) = a + 1
word_parts_at (CExpr-F.Fn2 g a b) = a + b + 1
word_parts_at (CExpr-F.Fn3 g a b c) = a + b + c + 1
word_parts_at (CExpr-F.Pick t a b) = t + a + b + 1

abbrev pub cond_parts_at : CCond-F ℕ ℕ → ℕ
cond_parts_at (CCond-F.Cmp op a b) = a + b + 1
cond_parts_at (CCond-F.«CCond::Not» t) = t + 1
cond_parts_at (CCond-F.And t u) = t + u + 1
cond_parts_at (CCond-F.Or t u) = t + u + 1

abbrev pub word_parts : CExpr → ℕ
word_parts = fold-CExpr ℕ ℕ cond_parts_at word_parts_at

abbrev pub cond_parts : CCond → ℕ
cond_parts = fold-CCond ℕ ℕ cond_parts_at word_parts_at
