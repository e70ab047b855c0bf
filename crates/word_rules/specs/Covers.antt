-- Masks that cover what is made of covered parts.
use Rattle.std.specs.Prelude.{ℕ, Option}
use Rattle.c_syntax.specs.declared.syntax.CBin.{CBin}
use Rattle.c_syntax.specs.declared.syntax.CFn1.{CFn1}
use Rattle.c_syntax.specs.declared.syntax.CFn2.{CFn2}
use Rattle.c_syntax.specs.declared.syntax.CFn3.{CFn3}
use Rattle.c_syntax.specs.declared.syntax.CExpr.{CExpr}
use Rattle.c_words.specs.Built.{bin, fn1, fn2, fn3}
use Rattle.word_rules.specs.Numbers.{IsNumber}
use Rattle.word_rules.specs.Standing.{IsCoveredBy}

-- an operator of two covered Words, of which the second may be a number
pub record CoversBin (op : CBin) (p q : ℕ) (k : Option ℕ) (r : ℕ) : Type 0 where
  pub covers : (a b : CExpr) → IsNumber b k → IsCoveredBy a p → IsCoveredBy b q → IsCoveredBy (bin op a b) r

-- a function of any Words
pub record CoversFn1 (f : CFn1) (r : ℕ) : Type 0 where
  pub covers : (a : CExpr) → IsCoveredBy (fn1 f a) r

pub record CoversFn2 (f : CFn2) (r : ℕ) : Type 0 where
  pub covers : (a b : CExpr) → IsCoveredBy (fn2 f a b) r

pub record CoversFn3 (f : CFn3) (r : ℕ) : Type 0 where
  pub covers : (a b c : CExpr) → IsCoveredBy (fn3 f a b c) r
