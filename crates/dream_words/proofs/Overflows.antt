-- The signed overflow of a sum and of a difference, by the top bits of the words.
use Rattle.std.proofs.Common.{◌≡◌, ℕ, ℤ, pos, suc, zero, ◌+◌, ◌-◌, ◌*◌, ◌%◌, ◌^◌, ◌<◌, ◌≤◌, ◌+ℤ◌, ◌-ℤ◌, Bool, true, false, nat_eq, nat_le, not, ◌&&◌, cond, bit_and, arith, refl, ap, sym, ◌⊎◌, inl, inr, int_le, int_lt, ◌∙◌, min, add-one, lit<, subst}
use Rattle.std.specs.Prelude.{bit_xor}
use Rattle.std.specs.Int.{bit_at}
use Rattle.std.proofs.lemmas.Nat.{mod-pow-add, pow_pos, mod_below}
use Rattle.std.proofs.lemmas.Nat.Bits.{bit_at-lt, bit_at_and, bit_at_xor}
use Rattle.std.proofs.lemmas.Int.{ints}
use Rattle.std.proofs.lemmas.Bool.{cases_lt}
use Rattle.std.proofs.lemmas.Bool.Decides.{nat_tests}
use Rattle.std.proofs.Math.Pow.{mod-mod-pow}
use Rattle.std.proofs.Math.Nat.{add-mod, mod-add-mod, add_comm, pow-suc, add-mod_right, mod-eq_of_lt}
use Rattle.dream_words.specs.Words.{IsSize, low_part, sign_bit, bit_of, sum_overflows, difference_overflows}
use Rattle.dream_words.specs.Signed.{differ}

-- ---- the sign of a word is its top bit

low_part-bit_at : (h v : ℕ) → low_part (h + 1) v ≡ bit_at v h * 2 ^ h + v % 2 ^ h
low_part-bit_at h v = rw (add_comm h 1) (mod-pow-add v 1 h)

sign_bit-bit_at : (h v : ℕ) → sign_bit (h + 1) v ≡ nat_eq (bit_at v h) 1
sign_bit-bit_at h v =
    let e : low_part (h + 1) v ≡ bit_at v h * 2 ^ h + v % 2 ^ h = low_part-bit_at h v in
    let b : bit_at v h < 2 = bit_at-lt v h in
    let r : v % 2 ^ h < 2 ^ h = mod_below v (2 ^ h) (pow_pos h) in
    grind (arith, nat_tests)

-- two bits that differ, and two that are both 1
bits_differ : (a b : ℕ) → a < 2 → b < 2 → nat_eq ((a + b) % 2) 1 ≡ differ (nat_eq a 1) (nat_eq b 1)
bits_differ zero zero p q = refl
bits_differ zero (suc zero) p q = refl
bits_differ (suc zero) zero p q = refl
bits_differ (suc zero) (suc zero) p q = refl
bits_differ (suc (suc a)) b p q = absurd (omega (arith, p))
bits_differ zero (suc (suc b)) p q = absurd (omega (arith, q))
bits_differ (suc zero) (suc (suc b)) p q = absurd (omega (arith, q))

bits_both : (a b : ℕ) → a < 2 → b < 2 → nat_eq (min a b) 1 ≡ (nat_eq a 1 && nat_eq b 1)
bits_both zero zero p q = refl
bits_both zero (suc zero) p q = refl
bits_both (suc zero) zero p q = refl
bits_both (suc zero) (suc zero) p q = refl
bits_both (suc (suc a)) b p q = absurd (omega (arith, p))
bits_both zero (suc (suc b)) p q = absurd (omega (arith, q))
bits_both (suc zero) (suc (suc b)) p q = absurd (omega (arith, q))

sign_bit-bit_xor : (h a b : ℕ) → sign_bit (h + 1) (bit_xor a b) ≡ differ (sign_bit (h + 1) a) (sign_bit (h + 1) b)
sign_bit-bit_xor h a b =
    sign_bit-bit_at h (bit_xor a b)
    ∙ ap (λ n. nat_eq n 1) (bit_at_xor a b h)
    ∙ bits_differ (bit_at a h) (bit_at b h) (bit_at-lt a h) (bit_at-lt b h)
    ∙ ap (λ t. differ t (nat_eq (bit_at b h) 1)) (sym (sign_bit-bit_at h a))
    ∙ ap (differ (sign_bit (h + 1) a)) (sym (sign_bit-bit_at h b))

sign_bit-bit_and : (h a b : ℕ) → sign_bit (h + 1) (bit_and a b) ≡ (sign_bit (h + 1) a && sign_bit (h + 1) b)
sign_bit-bit_and h a b =
    sign_bit-bit_at h (bit_and a b)
    ∙ ap (λ n. nat_eq n 1) (bit_at_and a b h)
    ∙ bits_both (bit_at a h) (bit_at b h) (bit_at-lt a h) (bit_at-lt b h)
    ∙ ap (λ t. t && nat_eq (bit_at b h) 1) (sym (sign_bit-bit_at h a))
    ∙ ap (λ t. sign_bit (h + 1) a && t) (sym (sign_bit-bit_at h b))

-- the sign of two differences at once
sign_bit-both : (h a b c d : ℕ) → sign_bit (h + 1) (bit_and (bit_xor a b) (bit_xor c d)) ≡ (differ (sign_bit (h + 1) a) (sign_bit (h + 1) b) && differ (sign_bit (h + 1) c) (sign_bit (h + 1) d))
sign_bit-both h a b c d =
    sign_bit-bit_and h (bit_xor a b) (bit_xor c d)
    ∙ ap (λ t. t && sign_bit (h + 1) (bit_xor c d)) (sign_bit-bit_xor h a b)
    ∙ ap (λ t. differ (sign_bit (h + 1) a) (sign_bit (h + 1) b) && t) (sign_bit-bit_xor h c d)

-- ---- words as signed numbers, where half of the words are below `half`

-- a word as a signed number
abbrev signed_at : ℕ → ℕ → ℕ → ℤ
signed_at half full x = cond (nat_le half x) (pos x -ℤ pos full) (pos x)

-- a number that no signed word can hold
abbrev leaves : ℕ → ℤ → Bool
leaves half z = not (int_le (pos 0 -ℤ pos half) z && int_lt z (pos half))

both_halves : (h : ℕ) → 2 ^ (h + 1) ≡ 2 ^ (h + 1 - 1) + 2 ^ (h + 1 - 1)
both_halves h = let e : 2 ^ suc h ≡ 2 ^ h * 2 = pow-suc 2 h in let f : h + 1 - 1 ≡ h = omega arith in rw (f, add-one) (e ∙ omega arith)

bit_of-lt : (c : Bool) → bit_of c < 2
bit_of-lt true = lit< tt
bit_of-lt false = lit< tt

-- a test of a number that is known to be below another, or not
below_test : (a b : ℕ) → b < a → nat_le a b ≡ false
below_test a b h = grind (arith, nat_tests)

above_test : (a b : ℕ) → a ≤ b → nat_le a b ≡ true
above_test a b h = grind (arith, nat_tests)

module _ (half full x y s k : ℕ) (e : full ≡ half + half) (xl : x < full) (yl : y < full) (sl : s < full) (kl : k < 2) where
  abbrev SumLeaves : Type 0
  SumLeaves =
      (differ (nat_le half x) (nat_le half s) && differ (nat_le half y) (nat_le half s)) ≡ leaves half (signed_at half full x +ℤ signed_at half full y +ℤ pos k)

  -- s is the sum taken to the size: the sum leaves the signed range where its sign is that of neither part
  sum_leaves : (x + y + k ≡ s) ⊎ (x + y + k ≡ s + full) → SumLeaves
  sum_leaves w =
      elim (cases_lt x half) [
        | inl a ↦ elim (cases_lt y half) [ inl b ↦ rw (below_test half x a, below_test half y b) (grind (arith, nat_tests, ints)) | inr b ↦ rw (below_test half x a, above_test half y b) (grind (arith, nat_tests, ints)) ]
        | inr a ↦ elim (cases_lt y half) [ inl b ↦ rw (above_test half x a, below_test half y b) (grind (arith, nat_tests, ints)) | inr b ↦ rw (above_test half x a, above_test half y b) (grind (arith, nat_tests, ints)) ]
      ]

  abbrev DifferenceLeaves : Type 0
  DifferenceLeaves =
      (differ (nat_le half x) (nat_le half y) && differ (nat_le half x) (nat_le half s)) ≡ leaves half (signed_at half full x -ℤ (signed_at half full y +ℤ pos k))

  -- s is the difference taken to the size: it leaves the range where the signs differ and its own isn't the first's
  difference_leaves : (x ≡ y + k + s) ⊎ (x + full ≡ y + k + s) → DifferenceLeaves
  difference_leaves w =
      elim (cases_lt x half) [
        | inl a ↦ elim (cases_lt y half) [ inl b ↦ rw (below_test half x a, below_test half y b) (grind (arith, nat_tests, ints)) | inr b ↦ rw (below_test half x a, above_test half y b) (grind (arith, nat_tests, ints)) ]
        | inr a ↦ elim (cases_lt y half) [ inl b ↦ rw (above_test half x a, below_test half y b) (grind (arith, nat_tests, ints)) | inr b ↦ rw (above_test half x a, above_test half y b) (grind (arith, nat_tests, ints)) ]
      ]

-- ---- sums and differences as the code makes them, at 32 bits

-- the sum of two words and a carry
abbrev pub sum_32 : ℕ → ℕ → Bool → ℕ
sum_32 a b c = ((a + b) % 2 ^ 32 + bit_of c) % 2 ^ 32

-- the difference of two words and a borrow
abbrev pub difference_32 : ℕ → ℕ → Bool → ℕ
difference_32 a b c = ((a + (2 ^ 32 - b)) % 2 ^ 32 + (2 ^ 32 - bit_of c)) % 2 ^ 32

-- a number below twice the modulus wraps around at most once
wraps_once : (m t s : ℕ) → 0 < m → t < m + m → s ≡ t % m → (t ≡ s) ⊎ (t ≡ s + m)
wraps_once m t s p l e =
    elim (cases_lt t m) [
      | inl h ↦ inl (sym (e ∙ mod-eq_of_lt h))
      | inr h ↦
          let again : t ≡ t - m + m = omega (arith, h) in
          let rest : (t - m + m) % m ≡ (t - m) % m = add-mod_right (t - m) m in
          let low : (t - m) % m ≡ t - m = mod-eq_of_lt (omega (arith, h, l)) in
          inr (again ∙ ap (λ q. q + m) (sym (e ∙ ap (λ q. q % m) again ∙ rest ∙ low)))
    ]

-- the low bits of a sum that wrapped around
low_part-sum : (bits j a b c : ℕ) → low_part bits (((a + b) % 2 ^ (j + bits) + c) % 2 ^ (j + bits)) ≡ (low_part bits a + low_part bits b + c) % 2 ^ bits
low_part-sum bits j a b c =
    mod-mod-pow ((a + b) % 2 ^ (j + bits) + c) j bits
    ∙ sym (mod-add-mod ((a + b) % 2 ^ (j + bits)) (2 ^ bits) c)
    ∙ ap (λ n. (n + c) % 2 ^ bits) (mod-mod-pow (a + b) j bits ∙ add-mod a b (2 ^ bits))
    ∙ mod-add-mod (a % 2 ^ bits + b % 2 ^ bits) (2 ^ bits) c

low_part-lt : (h v : ℕ) → low_part (h + 1) v < 2 ^ (h + 1)
low_part-lt h v = mod_below v (2 ^ (h + 1)) (pow_pos (h + 1))

sum_at : (h a b s : ℕ) (c : Bool) → low_part (h + 1) s ≡ (low_part (h + 1) a + low_part (h + 1) b + bit_of c) % 2 ^ (h + 1) → sign_bit (h + 1) (bit_and (bit_xor a s) (bit_xor b s)) ≡ sum_overflows (h + 1) a b c
sum_at h a b s c e =
    let x : low_part (h + 1) a < 2 ^ (h + 1) = low_part-lt h a in
    let y : low_part (h + 1) b < 2 ^ (h + 1) = low_part-lt h b in
    let k : bit_of c < 2 = bit_of-lt c in
    sign_bit-both h a s b s
    ∙ sum_leaves (2 ^ (h + 1 - 1)) (2 ^ (h + 1)) (low_part (h + 1) a) (low_part (h + 1) b) (low_part (h + 1) s) (bit_of c) (both_halves h) x y (low_part-lt h s) k
    (wraps_once (2 ^ (h + 1)) (low_part (h + 1) a + low_part (h + 1) b + bit_of c) (low_part (h + 1) s) (pow_pos (h + 1)) (omega arith) e)

-- the test of the code is the signed overflow of the sum
pub sum_overflows_by_bits : (bits a b : ℕ) (c : Bool) → IsSize bits → sign_bit bits (bit_and (bit_xor a (sum_32 a b c)) (bit_xor b (sum_32 a b c))) ≡ sum_overflows bits a b c
sum_overflows_by_bits bits a b c size =
    let Holds : ℕ → Type 0 = λ n. sign_bit n (bit_and (bit_xor a (sum_32 a b c)) (bit_xor b (sum_32 a b c))) ≡ sum_overflows n a b c in
    elim size [
      | inl e ↦ subst Holds (sym e) (sum_at 7 a b (sum_32 a b c) c (low_part-sum 8 24 a b (bit_of c)))
      | inr other ↦ elim other [
        | inl e ↦ subst Holds (sym e) (sum_at 15 a b (sum_32 a b c) c (low_part-sum 16 16 a b (bit_of c)))
        | inr e ↦ subst Holds (sym e) (sum_at 31 a b (sum_32 a b c) c (low_part-sum 32 0 a b (bit_of c)))
      ]
    ]

-- s is the difference of x and y with the borrow k, wrapped around at most once
abbrev IsDifference : ℕ → ℕ → ℕ → ℕ → ℕ → Type 0
IsDifference full x y s k = (x ≡ y + k + s) ⊎ (x + full ≡ y + k + s)

difference_at : (h a b s : ℕ) (c : Bool) → IsDifference (2 ^ (h + 1)) (low_part (h + 1) a) (low_part (h + 1) b) (low_part (h + 1) s) (bit_of c) → sign_bit (h + 1) (bit_and (bit_xor a b) (bit_xor a s)) ≡ difference_overflows (h + 1) a b c
difference_at h a b s c e =
    sign_bit-both h a b a s
    ∙ difference_leaves (2 ^ (h + 1 - 1)) (2 ^ (h + 1)) (low_part (h + 1) a) (low_part (h + 1) b) (low_part (h + 1) s) (bit_of c) (both_halves h) (low_part-lt h a) (low_part-lt h b) (low_part-lt h s) (bit_of-lt c) e

-- the low bits of a difference that wrapped around, at each size
low_difference_8 : (a b : ℕ) (c : Bool) → a < 2 ^ 32 → b < 2 ^ 32 → IsDifference 256 (a % 256) (b % 256) (difference_32 a b c % 256) (bit_of c)
low_difference_8 a b c p q = let k : bit_of c < 2 = bit_of-lt c in grind arith

low_difference_16 : (a b : ℕ) (c : Bool) → a < 2 ^ 32 → b < 2 ^ 32 → IsDifference 65536 (a % 65536) (b % 65536) (difference_32 a b c % 65536) (bit_of c)
low_difference_16 a b c p q = let k : bit_of c < 2 = bit_of-lt c in grind arith

low_difference_32 : (a b : ℕ) (c : Bool) → a < 2 ^ 32 → b < 2 ^ 32 → IsDifference (2 ^ 32) (a % 2 ^ 32) (b % 2 ^ 32) (difference_32 a b c % 2 ^ 32) (bit_of c)
low_difference_32 a b c p q = let k : bit_of c < 2 = bit_of-lt c in grind arith

-- the test of the code is the signed overflow of the difference
pub difference_overflows_by_bits : (bits a b : ℕ) (c : Bool) → IsSize bits → a < 2 ^ 32 → b < 2 ^ 32 → sign_bit bits (bit_and (bit_xor a b) (bit_xor a (difference_32 a b c))) ≡ difference_overflows bits a b c
difference_overflows_by_bits bits a b c size p q =
    let Holds : ℕ → Type 0 = λ n. sign_bit n (bit_and (bit_xor a b) (bit_xor a (difference_32 a b c))) ≡ difference_overflows n a b c in
    elim size [
      | inl e ↦ subst Holds (sym e) (difference_at 7 a b (difference_32 a b c) c (low_difference_8 a b c p q))
      | inr other ↦ elim other [
        | inl e ↦ subst Holds (sym e) (difference_at 15 a b (difference_32 a b c) c (low_difference_16 a b c p q))
        | inr e ↦ subst Holds (sym e) (difference_at 31 a b (difference_32 a b c) c (low_difference_32 a b c p q))
      ]
    ]
