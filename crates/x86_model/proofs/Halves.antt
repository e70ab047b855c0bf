-- A signed product fits where its high half is made of copies of the low half's sign.
use Rattle.std.proofs.Common.{◌≡◌, ℕ, suc, zero, pos, ◌+◌, ◌-◌, ◌*◌, ◌/◌, ◌%◌, ◌^◌, ◌<◌, ◌≤◌, ◌*ℤ◌, neg_ℤ, unsigned_abs, Bool, true, false, not, nat_eq, if◌then◌else◌, arith, refl, ap, sym, ◌∙◌, inl, inr, subst, lit≤, nat_le}
use Rattle.std.specs.Int.{int_rem_euclid}
use Rattle.std.proofs.Math.Pow.{mod-mod-pow}
use Rattle.std.proofs.Math.Nat.{mod-add-mod, mul-mod_left, add-mul-mod_self_right, mul-le-mul, mul_comm, le_trans}
use Rattle.std.proofs.lemmas.Bool.Decides.{nat_tests}
use Rattle.std.proofs.lemmas.Int.{ints, int_rem_euclid_is}
use Rattle.std.proofs.lemmas.Nat.{mod_below, mul-mod, pow_pos}
use Rattle.dream_words.specs.Words.{IsSize, low_part, sign_bit, signed_part, fits_signed, word_of, high_signed_product}
use Rattle.dream_words.specs.Signed.{signed_by, differ}
use Rattle.x86_model.specs.Arithmetic.{product_overflows, sign_copies}

-- ---- signed numbers by their sign and their distance from 0

-- how far a word's low part, read as a signed number, is from 0
abbrev distance : ℕ → ℕ → ℕ
distance bits v = if sign_bit bits v then 2 ^ bits - low_part bits v else low_part bits v

signed_part-distance : (bits v : ℕ) → signed_part bits v ≡ signed_by (sign_bit bits v) (distance bits v)
signed_part-distance bits v = by_sign (sign_bit bits v) refl
  where
    by_sign : (s : Bool) → sign_bit bits v ≡ s → signed_part bits v ≡ signed_by (sign_bit bits v) (distance bits v)
    by_sign true e = let low : low_part bits v < 2 ^ bits = mod_below v (2 ^ bits) (pow_pos bits) in rw e (omega (arith, ints))
    by_sign false e = rw e refl

-- 0 has no sign
zero_neg : {n : ℕ} → n ≡ 0 → pos n ≡ neg_ℤ (pos n)
zero_neg {n} e = subst (λ k. pos k ≡ neg_ℤ (pos k)) (sym e) refl

-- the sign of a product
product_by_distance : (a b : Bool) (m k : ℕ) → signed_by a m *ℤ signed_by b k ≡ signed_by (differ a b) (m * k)
product_by_distance false false m k = refl
product_by_distance false true m zero = zero_neg (omega arith)
product_by_distance false true m (suc k) = refl
product_by_distance true false zero k = zero_neg (omega arith)
product_by_distance true false (suc m) k = refl
product_by_distance true true zero zero = refl
product_by_distance true true zero (suc k) = sym (zero_neg (omega arith))
product_by_distance true true (suc m) zero = sym (zero_neg (omega arith))
product_by_distance true true (suc m) (suc k) = refl

-- a number near 0 taken to a modulus
abbrev taken : ℕ → Bool → ℕ → ℕ
taken n true m = (n - m) % n
taken n false m = m % n

taken_by_distance : (n : ℕ) (s : Bool) (m : ℕ) → 0 < n → m ≤ n → unsigned_abs (int_rem_euclid (signed_by s m) (pos n)) ≡ taken n s m
taken_by_distance n true m h l = ap unsigned_abs (int_rem_euclid_is (neg_ℤ (pos m)) (pos n) n 1 (n - m) h refl (omega (arith, ints)))
taken_by_distance n false m h l = refl

-- ---- the low part of a product

-- a word has the low part of the number with that sign and that distance
abbrev HasLowPart : ℕ → ℕ → Bool → ℕ → Type 0
HasLowPart full v true m = (v + m) % full ≡ 0
HasLowPart full v false m = v % full ≡ m % full

-- a word with this low part is so far from 0, and below it where the sign is set
abbrev IsDistance : ℕ → ℕ → Bool → ℕ → Type 0
IsDistance full x true m = m + x ≡ full
IsDistance full x false m = m ≡ x

-- the products of two words and of their distances, where one of the words is below 0
one_below : (full x y v m : ℕ) → m + x ≡ full → v % full ≡ (x * y) % full → (v + m * y) % full ≡ 0
one_below full x y v m e f =
    let sum : x * y + m * y ≡ y * full = rw (sym e) (grind arith) in
    sym (mod-add-mod v full (m * y)) ∙ ap (λ n. (n + m * y) % full) f ∙ mod-add-mod (x * y) full (m * y) ∙ ap (λ n. n % full) sum ∙ mul-mod_left y full

-- the same where both are below 0
two_below : (full x y v m k : ℕ) → m + x ≡ full → k + y ≡ full → v % full ≡ (x * y) % full → v % full ≡ (m * k) % full
two_below full x y v m k e f g =
    let here : m * k + m * y ≡ m * full = rw (sym f) (grind arith) in
    let there : m * y + x * y ≡ y * full = rw (sym e) (grind arith) in
    let both : m * k + y * full ≡ x * y + m * full = omega arith in
    g ∙ sym (add-mul-mod_self_right (x * y) m full) ∙ ap (λ n. n % full) (sym both) ∙ add-mul-mod_self_right (m * k) y full

-- the product of two words has the low part of the product of the signed numbers
low_by_distance : (full x y v m k : ℕ) (a b : Bool) → IsDistance full x a m → IsDistance full y b k → v % full ≡ (x * y) % full → HasLowPart full v (differ a b) (m * k)
low_by_distance full x y v m k false false e f g = rw (e, f) g
low_by_distance full x y v m k true false e f g = rw f (one_below full x y v m e g)
low_by_distance full x y v m k false true e f g = rw e (subst (λ n. (v + n) % full ≡ 0) (mul_comm k x) (one_below full y x v k f (g ∙ ap (λ n. n % full) (mul_comm x y))))
low_by_distance full x y v m k true true e f g = two_below full x y v m k e f g

is_distance : (bits v : ℕ) → IsDistance (2 ^ bits) (low_part bits v) (sign_bit bits v) (distance bits v)
is_distance bits v = by_sign (sign_bit bits v) refl
  where
    by_sign : (s : Bool) → sign_bit bits v ≡ s → IsDistance (2 ^ bits) (low_part bits v) (sign_bit bits v) (distance bits v)
    by_sign true e = let low : low_part bits v < 2 ^ bits = mod_below v (2 ^ bits) (pow_pos bits) in rw e (omega arith)
    by_sign false e = rw e refl

-- the halves agree at a size: m is the distance of the product, and v the product of the words
abbrev Agree : ℕ → Type 0
Agree bits = (s : Bool) (m v : ℕ) → m ≤ 2 ^ (bits - 1) * 2 ^ (bits - 1) → HasLowPart (2 ^ bits) v s m →
    fits_signed bits (signed_by s m) ≡ nat_eq (taken (2 ^ (bits + bits)) s m / 2 ^ bits) (sign_copies bits v)

agree_8 : Agree 8
agree_8 true m v h l = grind (arith, nat_tests, ints)
agree_8 false m v h l = grind (arith, nat_tests, ints)

agree_16 : Agree 16
agree_16 true m v h l = grind (arith, nat_tests, ints)
agree_16 false m v h l = grind (arith, nat_tests, ints)

agree_32 : Agree 32
agree_32 true m v h l = grind (arith, nat_tests, ints)
agree_32 false m v h l = grind (arith, nat_tests, ints)

-- no signed word is further from 0 than half of the words
distance_small : (bits v : ℕ) → IsSize bits → distance bits v ≤ 2 ^ (bits - 1)
distance_small bits v (inl e) = subst (λ n. distance n v ≤ 2 ^ (n - 1)) (sym e) (grind (arith, nat_tests))
distance_small bits v (inr (inl e)) = subst (λ n. distance n v ≤ 2 ^ (n - 1)) (sym e) (grind (arith, nat_tests))
distance_small bits v (inr (inr e)) = subst (λ n. distance n v ≤ 2 ^ (n - 1)) (sym e) (grind (arith, nat_tests))

agree : (bits : ℕ) → IsSize bits → Agree bits
agree bits (inl e) = subst Agree (sym e) agree_8
agree bits (inr (inl e)) = subst Agree (sym e) agree_16
agree bits (inr (inr e)) = subst Agree (sym e) agree_32

-- a square of a half is within twice the size
room : (bits : ℕ) → IsSize bits → 2 ^ (bits - 1) * 2 ^ (bits - 1) ≤ 2 ^ (bits + bits)
room bits (inl e) = subst (λ n. 2 ^ (n - 1) * 2 ^ (n - 1) ≤ 2 ^ (n + n)) (sym e) (lit≤ tt)
room bits (inr (inl e)) = subst (λ n. 2 ^ (n - 1) * 2 ^ (n - 1) ≤ 2 ^ (n + n)) (sym e) (lit≤ tt)
room bits (inr (inr e)) = subst (λ n. 2 ^ (n - 1) * 2 ^ (n - 1) ≤ 2 ^ (n + n)) (sym e) (lit≤ tt)

-- a signed product by sign and distance
signed_product : (bits x y : ℕ) → signed_part bits x *ℤ signed_part bits y ≡ signed_by (differ (sign_bit bits x) (sign_bit bits y)) (distance bits x * distance bits y)
signed_product bits x y =
    ap (λ z. z *ℤ signed_part bits y) (signed_part-distance bits x)
    ∙ ap (λ z. signed_by (sign_bit bits x) (distance bits x) *ℤ z) (signed_part-distance bits y)
    ∙ product_by_distance (sign_bit bits x) (sign_bit bits y) (distance bits x) (distance bits y)

pub product_overflows_by_halves : (bits x y : ℕ) → IsSize bits → product_overflows bits x y ≡ not (nat_eq (high_signed_product bits x y) (sign_copies bits (x * y)))
product_overflows_by_halves bits x y i =
    let s : Bool = differ (sign_bit bits x) (sign_bit bits y) in
    let m : ℕ = distance bits x * distance bits y in
    let is : signed_part bits x *ℤ signed_part bits y ≡ signed_by s m = signed_product bits x y in
    let small : m ≤ 2 ^ (bits - 1) * 2 ^ (bits - 1) = mul-le-mul (distance_small bits x i) (distance_small bits y i) in
    let low : HasLowPart (2 ^ bits) (x * y) s m = low_by_distance (2 ^ bits) (low_part bits x) (low_part bits y) (x * y) (distance bits x) (distance bits y) (sign_bit bits x) (sign_bit bits y) (is_distance bits x) (is_distance bits y) (mul-mod x y (2 ^ bits)) in
    let word : word_of (bits + bits) (signed_by s m) ≡ taken (2 ^ (bits + bits)) s m = taken_by_distance (2 ^ (bits + bits)) s m (pow_pos (bits + bits)) (le_trans small (room bits i)) in
    ap (λ z. not (fits_signed bits z)) is
    ∙ ap not (agree bits i s m (x * y) small low)
    ∙ ap (λ n. not (nat_eq (n / 2 ^ bits) (sign_copies bits (x * y)))) (sym (ap (word_of (bits + bits)) is ∙ word))

-- a sign is among the low 32 bits
sign_copies-word : (bits v : ℕ) → IsSize bits → sign_copies bits (v % 2 ^ 32) ≡ sign_copies bits v
sign_copies-word bits v (inl e) = subst (λ n. sign_copies n (v % 2 ^ 32) ≡ sign_copies n v) (sym e) (ap (λ n. if nat_le 128 n then 255 else 0) (mod-mod-pow v 24 8))
sign_copies-word bits v (inr (inl e)) = subst (λ n. sign_copies n (v % 2 ^ 32) ≡ sign_copies n v) (sym e) (ap (λ n. if nat_le 32768 n then 65535 else 0) (mod-mod-pow v 16 16))
sign_copies-word bits v (inr (inr e)) = subst (λ n. sign_copies n (v % 2 ^ 32) ≡ sign_copies n v) (sym e) (ap (λ n. if nat_le 2147483648 n then 4294967295 else 0) (mod-mod-pow v 0 32))

-- the same with the low half as the code has it, modulo 2^32
pub overflows_by_word : (bits x y : ℕ) → IsSize bits → not (nat_eq (high_signed_product bits x y) (sign_copies bits (x * y % 2 ^ 32))) ≡ product_overflows bits x y
overflows_by_word bits x y i =
    ap (λ n. not (nat_eq (high_signed_product bits x y) n)) (sign_copies-word bits (x * y) i) ∙ sym (product_overflows_by_halves bits x y i)
