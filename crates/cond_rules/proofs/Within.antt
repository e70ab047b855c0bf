-- Words whose values are below a power of two.
use Rattle.std.proofs.Common.{◌≡◌, ℕ, ◌-◌, ◌^◌, ◌<◌, ◌≤◌, arith, subst, sym, lit<}
use Rattle.std.specs.Prelude.{bit_and}
use Rattle.std.proofs.lemmas.Nat.{and_le_r, pow_pos}
use Rattle.dream_words.specs.declared.machine.Width.{Width}
use Rattle.c_syntax.specs.declared.syntax.CExpr.{CExpr}
use Rattle.word_rules.specs.Standing.{IsCoveredBy}
use Rattle.cond_rules.specs.Widths.{bits_at, IsWithin}

-- what a mask covers is at most the mask
pub covered_within : (w : Width) (e : CExpr) (k m : ℕ) → IsCoveredBy e k → m ≡ 2 ^ bits_at w - 1 → k ≤ m → IsWithin w e
covered_within w e k m h em l = λ t v s x ex.
    let c : bit_and x k ≡ x = h t v s x ex in
    let b : bit_and x k ≤ k = and_le_r x k in
    let p : 0 < 2 ^ bits_at w = pow_pos (bits_at w) in
    omega (arith, c, b, p, em, l)
