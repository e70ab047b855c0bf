-- Signed words by their sign and their distance from 0: products, quotients and remainders.
use Rattle.std.proofs.Common.{◌≡◌, ℕ, suc, zero, pos, ◌+◌, ◌-◌, ◌*◌, ◌/◌, ◌%◌, ◌^◌, ◌<◌, ◌+ℤ◌, ◌*ℤ◌, neg_ℤ, unsigned_abs, Bool, true, false, nat_eq, Some, arith, refl, ap, sym, ◌∙◌, inl, inr, subst}
use Rattle.std.specs.Prelude.{int_div, int_rem}
use Rattle.std.specs.Int.{int_rem_euclid}
use Rattle.std.proofs.Math.Nat.{div-add-mod'}
use Rattle.std.proofs.lemmas.Bool.Decides.{nat_tests}
use Rattle.std.proofs.lemmas.Int.{ints, int_rem_euclid_is}
use Rattle.std.proofs.lemmas.Nat.{mod_below}
use Rattle.dream_words.specs.Words.{IsSize, low_part, sign_bit, wide_number, signed_part, fits_signed, word_of, signed_quotient_of}
use Rattle.dream_words.specs.Signed.{signed_by, differ}

-- ---- two words as one of twice the size

sign_8 : (hi lo : ℕ) → sign_bit 16 (wide_number 8 hi lo) ≡ sign_bit 8 hi
sign_8 hi lo = grind (arith, nat_tests)

sign_16 : (hi lo : ℕ) → sign_bit 32 (wide_number 16 hi lo) ≡ sign_bit 16 hi
sign_16 hi lo = grind (arith, nat_tests)

sign_32 : (hi lo : ℕ) → sign_bit 64 (wide_number 32 hi lo) ≡ sign_bit 32 hi
sign_32 hi lo = grind (arith, nat_tests)

-- the sign of a pair is that of its high word
sign_bit-wide_number : (bits hi lo : ℕ) → IsSize bits → sign_bit (bits + bits) (wide_number bits hi lo) ≡ sign_bit bits hi
sign_bit-wide_number bits hi lo (inl e) = subst (λ n. sign_bit (n + n) (wide_number n hi lo) ≡ sign_bit n hi) (sym e) (sign_8 hi lo)
sign_bit-wide_number bits hi lo (inr (inl e)) = subst (λ n. sign_bit (n + n) (wide_number n hi lo) ≡ sign_bit n hi) (sym e) (sign_16 hi lo)
sign_bit-wide_number bits hi lo (inr (inr e)) = subst (λ n. sign_bit (n + n) (wide_number n hi lo) ≡ sign_bit n hi) (sym e) (sign_32 hi lo)

low_8 : (hi lo : ℕ) → low_part 16 (wide_number 8 hi lo) ≡ wide_number 8 hi lo
low_8 hi lo = grind arith

low_16 : (hi lo : ℕ) → low_part 32 (wide_number 16 hi lo) ≡ wide_number 16 hi lo
low_16 hi lo = grind arith

low_32 : (hi lo : ℕ) → low_part 64 (wide_number 32 hi lo) ≡ wide_number 32 hi lo
low_32 hi lo = grind arith

-- a pair is a word of twice the size
low_part-wide_number : (bits hi lo : ℕ) → IsSize bits → low_part (bits + bits) (wide_number bits hi lo) ≡ wide_number bits hi lo
low_part-wide_number bits hi lo (inl e) = subst (λ n. low_part (n + n) (wide_number n hi lo) ≡ wide_number n hi lo) (sym e) (low_8 hi lo)
low_part-wide_number bits hi lo (inr (inl e)) = subst (λ n. low_part (n + n) (wide_number n hi lo) ≡ wide_number n hi lo) (sym e) (low_16 hi lo)
low_part-wide_number bits hi lo (inr (inr e)) = subst (λ n. low_part (n + n) (wide_number n hi lo) ≡ wide_number n hi lo) (sym e) (low_32 hi lo)

-- ---- words by sign and distance

-- a word whose sign is set is as far below 0 as below the size's end
pub low_part_by_distance : (bits v : ℕ) → sign_bit bits v ≡ true → low_part bits v < 2 ^ bits → signed_part bits v ≡ signed_by true (2 ^ bits - low_part bits v)
low_part_by_distance bits v e h = rw e (omega (arith, ints))

-- the same of two words as one
pub wide_number_by_distance : (bits hi lo : ℕ) → IsSize bits → sign_bit bits hi ≡ true → wide_number bits hi lo < 2 ^ (bits + bits) → signed_part (bits + bits) (wide_number bits hi lo) ≡ signed_by true (2 ^ (bits + bits) - wide_number bits hi lo)
wide_number_by_distance bits hi lo i e h =
    let f : sign_bit (bits + bits) (wide_number bits hi lo) ≡ true = sign_bit-wide_number bits hi lo i ∙ e in
    let g : low_part (bits + bits) (wide_number bits hi lo) ≡ wide_number bits hi lo = low_part-wide_number bits hi lo i in
    rw f (rw g (omega (arith, ints)))

-- ---- products, quotients and remainders

-- 0 has no sign
zero_neg : {n : ℕ} → n ≡ 0 → pos n ≡ neg_ℤ (pos n)
zero_neg {n} e = subst (λ k. pos k ≡ neg_ℤ (pos k)) (sym e) refl

neg_zero : {n : ℕ} → n ≡ 0 → neg_ℤ (pos n) ≡ pos n
neg_zero {n} e = sym (zero_neg e)

zero-div : (n : ℕ) → 0 / n ≡ 0
zero-div n = grind arith

zero-mod : (n : ℕ) → 0 % n ≡ 0
zero-mod n = grind arith

-- the quotient is truncated toward 0
int_div-signed_by : (a b : Bool) (m k : ℕ) → 0 < k → int_div (signed_by a m) (signed_by b k) ≡ signed_by (differ a b) (m / k)
int_div-signed_by false false m k h = refl
int_div-signed_by false true m zero h = absurd (omega arith)
int_div-signed_by false true m (suc k) h = refl
int_div-signed_by true false zero zero h = absurd (omega arith)
int_div-signed_by true false zero (suc k) h = zero_neg (zero-div (suc k))
int_div-signed_by true false (suc m) k h = refl
int_div-signed_by true true zero zero h = absurd (omega arith)
int_div-signed_by true true zero (suc k) h = neg_zero (zero-div (suc k))
int_div-signed_by true true (suc m) zero h = absurd (omega arith)
int_div-signed_by true true (suc m) (suc k) h = refl

-- the remainder has the sign of the dividend
int_rem-signed_by : (a b : Bool) (m k : ℕ) → 0 < k → int_rem (signed_by a m) (signed_by b k) ≡ signed_by a (m % k)
int_rem-signed_by false false m k h = refl
int_rem-signed_by false true m zero h = absurd (omega arith)
int_rem-signed_by false true m (suc k) h = refl
int_rem-signed_by true true zero zero h = absurd (omega arith)
int_rem-signed_by true false zero zero h = absurd (omega arith)
int_rem-signed_by true true zero (suc k) h = zero_neg (zero-mod (suc k))
int_rem-signed_by true false zero (suc k) h = zero_neg (zero-mod (suc k))
int_rem-signed_by true false (suc m) k h = refl
int_rem-signed_by true true (suc m) zero h = absurd (omega arith)
int_rem-signed_by true true (suc m) (suc k) h = refl

-- the sign of a product
pub product_by_distance : (a b : Bool) (m k : ℕ) → signed_by a m *ℤ signed_by b k ≡ signed_by (differ a b) (m * k)
product_by_distance false false m k = refl
product_by_distance false true m zero = zero_neg (omega arith)
product_by_distance false true m (suc k) = refl
product_by_distance true false zero k = zero_neg (omega arith)
product_by_distance true false (suc m) k = refl
product_by_distance true true zero zero = refl
product_by_distance true true zero (suc k) = neg_zero (omega arith)
product_by_distance true true (suc m) zero = neg_zero (omega arith)
product_by_distance true true (suc m) (suc k) = refl

-- the rest above the next multiple below
below : (p s m n k : ℕ) → p + k ≡ m → s ≡ p + n → k < n → neg_ℤ (pos m) +ℤ pos s ≡ pos (n - k)
below p s m n k e f h = omega (arith, ints)

add-one-mul : (a n : ℕ) → (a + 1) * n ≡ a * n + n
add-one-mul a n = grind arith

-- a number below 0 taken to a modulus
pub remainder_by_distance : (n m : ℕ) → 0 < n → unsigned_abs (int_rem_euclid (neg_ℤ (pos m)) (pos n)) ≡ (n - m % n) % n
remainder_by_distance n m h =
    let q : m / n * n + m % n ≡ m = div-add-mod' m n in
    let r : (m / n + 1) * n ≡ m / n * n + n = add-one-mul (m / n) n in
    let b : m % n < n = mod_below m n h in
    ap unsigned_abs (int_rem_euclid_is (neg_ℤ (pos m)) (pos n) n (m / n + 1) (n - m % n) h refl (below (m / n * n) ((m / n + 1) * n) m n (m % n) q r b))

-- the quotient and the remainder of two words by a third
pub quotient_by_distance : (bits hi lo d q r m k : ℕ) (a b : Bool) → signed_part (bits + bits) (wide_number bits hi lo) ≡ signed_by a m → signed_part bits d ≡ signed_by b k → 0 < k →
    nat_eq (low_part bits d) 0 ≡ false → fits_signed bits (signed_by (differ a b) (m / k)) ≡ true →
    q ≡ word_of bits (signed_by (differ a b) (m / k)) → r ≡ word_of bits (signed_by a (m % k)) → Some (q, r) ≡ signed_quotient_of bits hi lo d
quotient_by_distance bits hi lo d q r m k a b e f h z t u v = rw (e, f) (rw (int_div-signed_by a b m k h, int_rem-signed_by a b m k h) (rw (z, t) (rw (u, v) refl)))
