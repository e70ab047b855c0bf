-- Signed forms of Words, and comparisons that are two comparisons at once.
use Rattle.std.specs.Prelude.{◌≡◌, ℕ, Some, IsTrue, ◌&&◌, ◌||◌}
use Rattle.dream_words.specs.declared.machine.Width.{Width}
use Rattle.dream_words.specs.declared.machine.Width.TheVariants.{B, H, W}
use Rattle.dream_words.specs.Words.{sign_extended}
use Rattle.run_parts.specs.World.{Names}
use Rattle.c_syntax.specs.declared.syntax.CCmp.{CCmp}
use Rattle.c_syntax.specs.declared.syntax.CExpr.{CExpr}
use Rattle.c_syntax.specs.Words.{cmp_of}
use Rattle.c_syntax.specs.Value.{word_of}
use Rattle.micro_ir.specs.Rule.{has_flow_names}
use Rattle.word_rules.specs.Standing.{AreWords}
use Rattle.cond_rules.specs.Widths.{IsWithin}

-- a word below 2 to the number of bits, extended by its sign
abbrev pub extended_at : Width → ℕ → ℕ
extended_at B x = sign_extended 8 x
extended_at H x = sign_extended 16 x
extended_at W x = x

-- The second Word has the values of the first, which are below 2 to the number of bits, extended by their sign.
pub record IsSignedForm (w : Width) (e m : CExpr) : Type 0 where
  pub value : IsTrue (has_flow_names e) → (v : Names) → AreWords v → (x : ℕ) → word_of e v ≡ Some x → word_of m v ≡ Some (extended_at w x)
  pub within : IsWithin w e

-- the third comparison holds where one of two does
pub record IsUnion (p q r : CCmp) : Type 0 where
  pub union : (x y : ℕ) → cmp_of r x y ≡ (cmp_of p x y || cmp_of q x y)

-- the third comparison holds where the first does, and the second with its sides changed
pub record IsCommon (p q r : CCmp) : Type 0 where
  pub common : (x y : ℕ) → cmp_of r x y ≡ (cmp_of p x y && cmp_of q y x)
