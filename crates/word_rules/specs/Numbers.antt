-- Words that are numbers.
use Rattle.std.specs.Prelude.{◌≡◌, ℕ, Bool, true, false, Option, Some, None}
use Rattle.c_syntax.specs.declared.syntax.CExpr.{CExpr, CExpr-F, fold-CExpr}
use Rattle.c_words.specs.Built.{num}

abbrev pub is_number_at : CExpr-F Bool Bool → Bool
is_number_at (CExpr-F.Num n) = true
is_number_at (CExpr-F.Name n) = false
is_number_at (CExpr-F.«CExpr::Not» a) = false
is_number_at (CExpr-F.Bin op a b) = false
is_number_at (CExpr-F.Fn1 g a) = false
is_number_at (CExpr-F.Fn2 g a b) = false
is_number_at (CExpr-F.Fn3 g a b c) = false
is_number_at (CExpr-F.Pick t a b) = false

-- whether a Word is a number
abbrev pub is_number : CExpr → Bool
is_number = fold-CExpr Bool Bool (λ t. false) is_number_at

-- the number that a Word is, if it is one
abbrev pub IsNumber : CExpr → Option ℕ → Type 0
IsNumber e None = is_number e ≡ false
IsNumber e (Some n) = e ≡ num n
