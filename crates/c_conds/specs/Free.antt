-- Whether Words and Conds don't read a local for the outcome of a test.
use Rattle.std.specs.Prelude.{ℕ, nat_eq, Bool, true, not, ◌&&◌}
use Rattle.dream_words.specs.declared.machine.Name.{Name}
use Rattle.dream_words.specs.declared.machine.Name.TheVariants as name
use Rattle.c_syntax.specs.declared.syntax.CExpr.{CExpr, CExpr-F, fold-CExpr}
use Rattle.c_syntax.specs.declared.syntax.CCond.{CCond, CCond-F, fold-CCond}

-- a name isn't the local for the outcome of a test that has this number
abbrev pub is_other : ℕ → Name → Bool
is_other k (name.Reg n) = true
is_other k (name.Flag n) = true
is_other k name.Fs = true
is_other k name.Gs = true
is_other k (name.T n) = true
is_other k (name.B n) = not (nat_eq n k)
is_other k (name.S n) = true

abbrev pub word_at : ℕ → CExpr-F Bool Bool → Bool
word_at k (CExpr-F.Num n) = true
word_at k (CExpr-F.Name n) = is_other k n
word_at k (CExpr-F.«CExpr::Not» a) = a
word_at k (CExpr-F.Bin op a b) = a && b
word_at k (CExpr-F.Fn1 g a) = a
word_at k (CExpr-F.Fn2 g a b) = a && b
word_at k (CExpr-F.Fn3 g a b c) = a && (b && c)
word_at k (CExpr-F.Pick t a b) = t && (a && b)

abbrev pub cond_at : CCond-F Bool Bool → Bool
cond_at (CCond-F.Cmp op a b) = a && b
cond_at (CCond-F.«CCond::Not» t) = t
cond_at (CCond-F.And t u) = t && u
cond_at (CCond-F.Or t u) = t && u

-- every name of a Word, and of a Cond, is another
abbrev pub free_word : ℕ → CExpr → Bool
free_word k = fold-CExpr Bool Bool cond_at (word_at k)

abbrev pub free_cond : ℕ → CCond → Bool
free_cond k = fold-CCond Bool Bool cond_at (word_at k)
