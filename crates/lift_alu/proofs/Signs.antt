-- The signed overflow of a sum and of a difference, by the signs of their parts.
use Rattle.std.proofs.Common.{◌≡◌, ℕ, ℤ, pos, ◌+◌, ◌^◌, ◌<◌, ◌≤◌, ◌+ℤ◌, ◌-ℤ◌, Bool, true, false, nat_le, not, ◌&&◌, cond, arith, refl, ◌⊎◌, inl, inr, int_le, int_lt}
use Rattle.std.proofs.lemmas.Int.{ints}
use Rattle.std.proofs.lemmas.Bool.{cases_lt}
use Rattle.std.proofs.lemmas.Bool.Decides.{nat_tests}
use Rattle.dream_words.specs.Words.{IsSize, low_part, sign_bit, bit_of, sum_overflows, difference_overflows}
use Rattle.dream_words.specs.Signed.{differ}
use Rattle.x86_model.specs.Arithmetic.{sum_of, difference_of}
use Rattle.lift_alu.proofs.Sizes.{by_size}
use Rattle.lift_alu.proofs.Numbers.{bit_below, low_below}

-- ---- words as signed numbers, where half of the words are below `half`

-- a word as a signed number
abbrev signed_at : ℕ → ℕ → ℕ → ℤ
signed_at half full x = cond (nat_le half x) (pos x -ℤ pos full) (pos x)

-- a number that no signed word can hold
abbrev leaves : ℕ → ℤ → Bool
leaves half z = not (int_le (pos 0 -ℤ pos half) z && int_lt z (pos half))

-- a test of a number that is known to be below another, or not
below_test : (a b : ℕ) → b < a → nat_le a b ≡ false
below_test a b h = grind (arith, nat_tests)

above_test : (a b : ℕ) → a ≤ b → nat_le a b ≡ true
above_test a b h = grind (arith, nat_tests)

module _ (half full x y s k : ℕ) (e : full ≡ half + half) (xl : x < full) (yl : y < full) (sl : s < full) (kl : k < 2) where
  abbrev SumLeaves : Type 0
  SumLeaves =
      (differ (nat_le half x) (nat_le half s) && differ (nat_le half y) (nat_le half s)) ≡ leaves half (signed_at half full x +ℤ signed_at half full y +ℤ pos k)

  -- a sum s leaves the signed range where its sign is that of neither part
  sum_leaves : (x + y + k ≡ s) ⊎ (x + y + k ≡ s + full) → SumLeaves
  sum_leaves w =
      elim (cases_lt x half) [
        | inl a ↦ elim (cases_lt y half) [ inl b ↦ rw (below_test half x a, below_test half y b) (grind (arith, nat_tests, ints)) | inr b ↦ rw (below_test half x a, above_test half y b) (grind (arith, nat_tests, ints)) ]
        | inr a ↦ elim (cases_lt y half) [ inl b ↦ rw (above_test half x a, below_test half y b) (grind (arith, nat_tests, ints)) | inr b ↦ rw (above_test half x a, above_test half y b) (grind (arith, nat_tests, ints)) ]
      ]

  abbrev DifferenceLeaves : Type 0
  DifferenceLeaves =
      (differ (nat_le half x) (nat_le half y) && differ (nat_le half x) (nat_le half s)) ≡ leaves half (signed_at half full x -ℤ (signed_at half full y +ℤ pos k))

  -- a difference s leaves it where the signs of its parts differ and its own isn't the first's
  difference_leaves : (x ≡ y + k + s) ⊎ (x + full ≡ y + k + s) → DifferenceLeaves
  difference_leaves w =
      elim (cases_lt x half) [
        | inl a ↦ elim (cases_lt y half) [ inl b ↦ rw (below_test half x a, below_test half y b) (grind (arith, nat_tests, ints)) | inr b ↦ rw (below_test half x a, above_test half y b) (grind (arith, nat_tests, ints)) ]
        | inr a ↦ elim (cases_lt y half) [ inl b ↦ rw (above_test half x a, below_test half y b) (grind (arith, nat_tests, ints)) | inr b ↦ rw (above_test half x a, above_test half y b) (grind (arith, nat_tests, ints)) ]
      ]

-- ---- at the three sizes

-- a sum and a difference of low parts wrap around at most once
abbrev SumWraps : ℕ → ℕ → ℕ → Bool → Type 0
SumWraps bits x y c =
    (low_part bits x + low_part bits y + bit_of c ≡ low_part bits (sum_of bits x y c)) ⊎ (low_part bits x + low_part bits y + bit_of c ≡ low_part bits (sum_of bits x y c) + 2 ^ bits)

sum_wraps : (bits x y : ℕ) (c : Bool) → IsSize bits → x < 2 ^ bits → y < 2 ^ bits → SumWraps bits x y c
sum_wraps bits x y c size =
    let k : bit_of c < 2 = bit_below c in
    by_size (λ n. x < 2 ^ n → y < 2 ^ n → SumWraps n x y c) (λ p q. grind arith) (λ p q. grind arith) (λ p q. grind arith) bits size

abbrev DifferenceWraps : ℕ → ℕ → ℕ → Bool → Type 0
DifferenceWraps bits x y c =
    (low_part bits x ≡ low_part bits y + bit_of c + low_part bits (difference_of bits x y c)) ⊎ (low_part bits x + 2 ^ bits ≡ low_part bits y + bit_of c + low_part bits (difference_of bits x y c))

difference_wraps : (bits x y : ℕ) (c : Bool) → IsSize bits → x < 2 ^ bits → y < 2 ^ bits → DifferenceWraps bits x y c
difference_wraps bits x y c size =
    let k : bit_of c < 2 = bit_below c in
    by_size (λ n. x < 2 ^ n → y < 2 ^ n → DifferenceWraps n x y c) (λ p q. grind arith) (λ p q. grind arith) (λ p q. grind arith) bits size

-- whether the signs of a and b differ, and those of c and d
abbrev pub signs_differ_twice : ℕ → ℕ → ℕ → ℕ → ℕ → Bool
signs_differ_twice bits a b c d = differ (sign_bit bits a) (sign_bit bits b) && differ (sign_bit bits c) (sign_bit bits d)

pub sum_overflows_by_signs : (bits x y : ℕ) (c : Bool) → IsSize bits → x < 2 ^ bits → y < 2 ^ bits
    → signs_differ_twice bits x (sum_of bits x y c) y (sum_of bits x y c) ≡ sum_overflows bits x y c
sum_overflows_by_signs bits x y c size p q =
    by_size (λ n. SumWraps n x y c → signs_differ_twice n x (sum_of n x y c) y (sum_of n x y c) ≡ sum_overflows n x y c)
    (sum_leaves (2 ^ 7) (2 ^ 8) (low_part 8 x) (low_part 8 y) (low_part 8 (sum_of 8 x y c)) (bit_of c) refl (low_below 8 x) (low_below 8 y) (low_below 8 (sum_of 8 x y c)) (bit_below c))
    (sum_leaves (2 ^ 15) (2 ^ 16) (low_part 16 x) (low_part 16 y) (low_part 16 (sum_of 16 x y c)) (bit_of c) refl (low_below 16 x) (low_below 16 y) (low_below 16 (sum_of 16 x y c)) (bit_below c))
    (sum_leaves (2 ^ 31) (2 ^ 32) (low_part 32 x) (low_part 32 y) (low_part 32 (sum_of 32 x y c)) (bit_of c) refl (low_below 32 x) (low_below 32 y) (low_below 32 (sum_of 32 x y c)) (bit_below c))
    bits size (sum_wraps bits x y c size p q)

pub difference_overflows_by_signs : (bits x y : ℕ) (c : Bool) → IsSize bits → x < 2 ^ bits → y < 2 ^ bits
    → signs_differ_twice bits x y x (difference_of bits x y c) ≡ difference_overflows bits x y c
difference_overflows_by_signs bits x y c size p q =
    by_size (λ n. DifferenceWraps n x y c → signs_differ_twice n x y x (difference_of n x y c) ≡ difference_overflows n x y c)
    (difference_leaves (2 ^ 7) (2 ^ 8) (low_part 8 x) (low_part 8 y) (low_part 8 (difference_of 8 x y c)) (bit_of c) refl (low_below 8 x) (low_below 8 y) (low_below 8 (difference_of 8 x y c)) (bit_below c))
    (difference_leaves (2 ^ 15) (2 ^ 16) (low_part 16 x) (low_part 16 y) (low_part 16 (difference_of 16 x y c)) (bit_of c) refl (low_below 16 x) (low_below 16 y) (low_below 16 (difference_of 16 x y c)) (bit_below c))
    (difference_leaves (2 ^ 31) (2 ^ 32) (low_part 32 x) (low_part 32 y) (low_part 32 (difference_of 32 x y c)) (bit_of c) refl (low_below 32 x) (low_below 32 y) (low_below 32 (difference_of 32 x y c)) (bit_below c))
    bits size (difference_wraps bits x y c size p q)
