-- Operators with numbers, and what they may be turned to.
use Rattle.std.specs.Prelude.{◌≡◌, ℕ, ◌^◌, ◌<◌, false, ◌&&◌, nat_eq, Some}
use Rattle.c_syntax.specs.declared.syntax.CBin.{CBin}
use Rattle.c_syntax.specs.declared.syntax.CExpr.{CExpr}
use Rattle.c_syntax.specs.Words.{bin_of}
use Rattle.c_syntax.specs.Value.{both}
use Rattle.c_words.specs.Built.{num}
use Rattle.word_rules.specs.Plain.{drops_nought}

-- an operator with a number on the right does what another does
pub record TurnsTo (op : CBin) (k : ℕ) (m : CBin × ℕ) : Type 0 where
  pub value : (x z : ℕ) → x < 2 ^ 32 → bin_of op x k ≡ Some z → bin_of m.0 x m.1 ≡ Some z
  pub small : m.1 < 2 ^ 32
  pub effect : (drops_nought op && nat_eq k 0) ≡ false → (drops_nought m.0 && nat_eq m.1 0) ≡ false

-- an operator with a number, after another with a number, does what a third does
pub record Merges (inner : CBin) (j : ℕ) (op : CBin) (k : ℕ) (m : CBin × ℕ) : Type 0 where
  pub value : (x z : ℕ) → x < 2 ^ 32 → both (bin_of op) (bin_of inner x j) (Some k) ≡ Some z → bin_of m.0 x m.1 ≡ Some z
  pub small : m.1 < 2 ^ 32

-- the same, where the number of the first is a Word
pub record MergesWith (inner : CBin) (y : CExpr) (op : CBin) (k : ℕ) (m : CBin × ℕ) : Type 0 where
  pub number : ℕ
  pub is : y ≡ num number
  pub merges : Merges inner number op k m
