-- Differences and sums compared with numbers: comparisons of their parts.
use Rattle.std.proofs.Common.{◌≡◌, ℕ, ◌+◌, ◌-◌, ◌*◌, ◌%◌, ◌^◌, ◌<◌, ◌≤◌, Bool, true, false, nat_eq, nat_lt, bit_and, Some, refl, sym, ap, ◌∙◌, subst, arith, inl, inr}
use Rattle.std.specs.Prelude.{IsTrue, bit_xor}
use Rattle.std.specs.Int.Bits.{xor_add_and, xor_self}
use Rattle.std.proofs.lemmas.Nat.{and_mask, and_le_l, and_le_r}
use Rattle.std.proofs.lemmas.Bool.{cases_eq}
use Rattle.std.proofs.lemmas.Bool.Decides.{nat_tests}
use Rattle.dream_words.specs.declared.machine.Width.{Width}
use Rattle.dream_words.specs.declared.machine.Width.TheVariants.{B, H, W}
use Rattle.dream_words.specs.Words.{low_part}
use Rattle.c_syntax.specs.declared.syntax.CBin.TheVariants.{Add, Sub, Xor}
use Rattle.c_syntax.specs.declared.syntax.CCmp.{CCmp}
use Rattle.c_syntax.specs.declared.syntax.CExpr.{CExpr}
use Rattle.c_syntax.specs.declared.syntax.CCond.{CCond}
use Rattle.c_syntax.specs.Formed.{is_word}
use Rattle.c_words.specs.Built.{num, bin, cmp}
use Rattle.word_rules.specs.Standing.{ForCond}
use Rattle.cond_rules.specs.Widths.{bits_at, low_of, is_equality, IsWithin}
use Rattle.cond_rules.proofs.Tests.{Test, NeedsBoth, NeedsFirst, truth_by, is_small, two_for, one_with}
use Rattle.cond_rules.proofs.Tests.Shape.{first, second, number, joined}
use Rattle.cond_rules.proofs.Tests.Test.{test}
use Rattle.cond_rules.proofs.Comparing.{same_test, low_shape}

-- ---- on numbers

difference_8 : (x y : ℕ) → x < 2 ^ 8 → y < 2 ^ 8 → nat_eq (bit_and (low_part 32 (x + 2 ^ 32 - y)) 255) 0 ≡ nat_eq x y
difference_8 x y h k = rw (and_mask (low_part 32 (x + 2 ^ 32 - y)) 8) (grind (arith, nat_tests))

difference_16 : (x y : ℕ) → x < 2 ^ 16 → y < 2 ^ 16 → nat_eq (bit_and (low_part 32 (x + 2 ^ 32 - y)) 65535) 0 ≡ nat_eq x y
difference_16 x y h k = rw (and_mask (low_part 32 (x + 2 ^ 32 - y)) 16) (grind (arith, nat_tests))

difference_32 : (x y : ℕ) → x < 2 ^ 32 → y < 2 ^ 32 → nat_eq (low_part 32 (x + 2 ^ 32 - y)) 0 ≡ nat_eq x y
difference_32 x y h k = grind (arith, nat_tests)

exclusive_is : (x y : ℕ) → nat_eq (bit_xor x y) 0 ≡ nat_eq x y
exclusive_is x y =
    let s : bit_xor x y + bit_and x y * 2 ≡ x + y = xor_add_and x y in
    let l : bit_and x y ≤ x = and_le_l x y in
    let r : bit_and x y ≤ y = and_le_r x y in
    elim (cases_eq x y) [
      | inl e ↦ let z : bit_xor x y ≡ 0 = ap (λ k. bit_xor k y) e ∙ xor_self y in grind (arith, nat_tests)
      | inr n ↦ grind (arith, nat_tests)
    ]

-- what a sum with k is where the number is j
abbrev IsPlace : ℕ → ℕ → ℕ → ℕ → Type 0
IsPlace bits k j m = m ≡ (j + 2 ^ 32 - k) % 2 ^ 32 % 2 ^ bits

sum_8 : (k j m x : ℕ) → k < 2 ^ 32 → j < 2 ^ 8 → IsPlace 8 k j m → x < 2 ^ 8 → nat_eq (bit_and (low_part 32 (x + k)) 255) j ≡ nat_eq x m
sum_8 k j m x a b e h = rw (and_mask (low_part 32 (x + k)) 8) (grind (arith, nat_tests))

sum_16 : (k j m x : ℕ) → k < 2 ^ 32 → j < 2 ^ 16 → IsPlace 16 k j m → x < 2 ^ 16 → nat_eq (bit_and (low_part 32 (x + k)) 65535) j ≡ nat_eq x m
sum_16 k j m x a b e h = rw (and_mask (low_part 32 (x + k)) 16) (grind (arith, nat_tests))

sum_32 : (k j m x : ℕ) → k < 2 ^ 32 → j < 2 ^ 32 → IsPlace 32 k j m → x < 2 ^ 32 → nat_eq (low_part 32 (x + k)) j ≡ nat_eq x m
sum_32 k j m x a b e h = grind (arith, nat_tests)

module _ (op : CCmp) (h : IsTrue (is_equality op)) where
  -- ---- a difference

  abbrev no_difference : Width → Test
  no_difference w = test op (low_shape w (joined Sub first second)) (number 0)

  abbrev are_same : Test
  are_same = test op first second

  difference_stands : (w : Width) (a b : CExpr) → IsWithin w a → IsWithin w b → ForCond (cmp op (low_of w (bin Sub a b)) (num 0)) (cmp op a b)
  difference_stands B a b p q =
      two_for (no_difference B) are_same a b (λ x. x < 2 ^ 8) (λ x. x < 2 ^ 8) p q (record { first_value = λ o. refl; second_value = λ x. refl; first_name = λ n. refl; second_name = refl }) refl (omega arith)
      (λ x y i j. ap Some (same_test op h _ _ _ _ (difference_8 x y i j)))
  difference_stands H a b p q =
      two_for (no_difference H) are_same a b (λ x. x < 2 ^ 16) (λ x. x < 2 ^ 16) p q (record { first_value = λ o. refl; second_value = λ x. refl; first_name = λ n. refl; second_name = refl }) refl (omega arith)
      (λ x y i j. ap Some (same_test op h _ _ _ _ (difference_16 x y i j)))
  difference_stands W a b p q =
      two_for (no_difference W) are_same a b (λ x. x < 2 ^ 32) (λ x. x < 2 ^ 32) p q (record { first_value = λ o. refl; second_value = λ x. refl; first_name = λ n. refl; second_name = refl }) refl (omega arith)
      (λ x y i j. ap Some (same_test op h _ _ _ _ (difference_32 x y i j)))

  pub difference_made : (w : Width) (a b d x y m n : CExpr) (t : CCond) → a ≡ low_of w d → d ≡ bin Sub x y → b ≡ num 0 → IsWithin w x → IsWithin w y → m ≡ x → n ≡ y → t ≡ cmp op m n → ForCond (cmp op a b) t
  difference_made w a b d x y m n t ea ed eb p q em en et =
      let left : a ≡ low_of w (bin Sub x y) = ea ∙ ap (low_of w) ed in
      rw (left, eb, et, em, en) (difference_stands w x y p q)

  -- ---- the exclusive or

  pub exclusive_made : (a b x y m n : CExpr) (t : CCond) → a ≡ bin Xor x y → b ≡ num 0 → m ≡ x → n ≡ y → t ≡ cmp op m n → ForCond (cmp op a b) t
  exclusive_made a b x y m n t ea eb em en et =
      rw (ea, eb, et, em, en)
      (two_for (test op (joined Xor first second) (number 0)) are_same x y (λ k. k < 2 ^ 32) (λ k. k < 2 ^ 32) (is_small x) (is_small y)
      (record { first_value = λ o. refl; second_value = λ k. refl; first_name = λ k. refl; second_name = refl }) refl (omega arith)
      (λ i j p q. ap Some (same_test op h _ _ _ _ (exclusive_is i j))))

  -- ---- a sum with a number

  module _ (k j m : ℕ) (kl : k < 2 ^ 32) (named : is_word m ≡ true) where
    abbrev sum_test : Width → Test
    sum_test w = test op (low_shape w (joined Add first (number k))) (number j)

    abbrev place_test : Test
    place_test = test op first (number m)

    sum_stands : (w : Width) (a : CExpr) → IsWithin w a → j < 2 ^ bits_at w → IsPlace (bits_at w) k j m → ForCond (cmp op (low_of w (bin Add a (num k))) (num j)) (cmp op a (num m))
    sum_stands B a p jl e =
        one_with (sum_test B) place_test a (λ x. x < 2 ^ 8) p (record { value = λ o. refl; name = λ n. refl }) named (omega arith) (λ x i. ap Some (same_test op h _ _ _ _ (sum_8 k j m x kl jl e i)))
    sum_stands H a p jl e =
        one_with (sum_test H) place_test a (λ x. x < 2 ^ 16) p (record { value = λ o. refl; name = λ n. refl }) named (omega arith) (λ x i. ap Some (same_test op h _ _ _ _ (sum_16 k j m x kl jl e i)))
    sum_stands W a p jl e =
        one_with (sum_test W) place_test a (λ x. x < 2 ^ 32) p (record { value = λ o. refl; name = λ n. refl }) named (omega arith) (λ x i. ap Some (same_test op h _ _ _ _ (sum_32 k j m x kl jl e i)))

place_word : (bits k j m : ℕ) → IsPlace bits k j m → m < 2 ^ 32 → is_word m ≡ true
place_word bits k j m e l = grind (arith, nat_tests)

-- the place as the code makes it
place_is : (w : Width) (k j g : ℕ) → k < 2 ^ 32 → g ≡ 2 ^ bits_at w - 1 → IsPlace (bits_at w) k j (bit_and ((j + (2 ^ 32 - k)) % 2 ^ 32) g)
place_is w k j g kl eg =
    let e : j + (2 ^ 32 - k) ≡ j + 2 ^ 32 - k = omega (arith, kl) in
    rw (eg, e) (and_mask ((j + 2 ^ 32 - k) % 2 ^ 32) (bits_at w))

place_below : (w : Width) (k j m : ℕ) → IsPlace (bits_at w) k j m → m < 2 ^ 32
place_below B k j m e = omega (arith, e)
place_below H k j m e = omega (arith, e)
place_below W k j m e = omega (arith, e)

below_greatest : (w : Width) (j g : ℕ) → g ≡ 2 ^ bits_at w - 1 → j ≤ g → j < 2 ^ bits_at w
below_greatest B j g e l = omega (arith, e, l)
below_greatest H j g e l = omega (arith, e, l)
below_greatest W j g e l = omega (arith, e, l)

is_word_below : (w : Width) (j g : ℕ) → g ≡ 2 ^ bits_at w - 1 → j ≤ g → j < 2 ^ 32
is_word_below B j g e l = omega (arith, e, l)
is_word_below H j g e l = omega (arith, e, l)
is_word_below W j g e l = omega (arith, e, l)

pub sum_made : (op : CCmp) → IsTrue (is_equality op) → (w : Width) (k j g m : ℕ) (a b s x y z o : CExpr) (t : CCond) → a ≡ low_of w s → s ≡ bin Add x y → y ≡ num k → b ≡ num j → IsWithin w x → g ≡ 2 ^ bits_at w - 1 → j ≤ g → k ≤ g
    → m ≡ bit_and ((j + (2 ^ 32 - k)) % 2 ^ 32) g → z ≡ x → o ≡ num m → t ≡ cmp op z o → ForCond (cmp op a b) t
sum_made op h w k j g m a b s x y z o t ea es ey eb p eg jl kl em ez eo et =
    let left : a ≡ low_of w (bin Add x (num k)) = ea ∙ ap (low_of w) (es ∙ ap (bin Add x) ey) in
    let kb : k < 2 ^ 32 = is_word_below w k g eg kl in
    let place : IsPlace (bits_at w) k j m = em ∙ place_is w k j g kb eg in
    rw (left, eb, et, ez, eo)
    (sum_stands op h k j m kb (place_word (bits_at w) k j m place (place_below w k j m place)) w x p (below_greatest w j g eg jl) place)
