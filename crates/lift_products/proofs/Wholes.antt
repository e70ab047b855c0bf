-- Whole numbers taken to 32 bits: their products, their low parts, and whether they fit a size.
use Rattle.std.proofs.Common.{◌≡◌, ℕ, ℤ, suc, pos, negsuc, neg_ℤ, ◌+◌, ◌-◌, ◌*◌, ◌/◌, ◌%◌, ◌^◌, ◌<◌, ◌≤◌, ◌*ℤ◌, ◌-ℤ◌, Bool, true, false, nat_eq, nat_le, unsigned_abs, if◌then◌else◌, refl, sym, ap, ◌∙◌, arith}
use Rattle.std.proofs.Math.Nat.{div-add-mod', mod-eq_of_lt, mod-add-mod, mul-mod_left, add-mul-mod_self_right, mul_comm}
use Rattle.std.proofs.lemmas.Bool.Decides.{nat_tests}
use Rattle.std.proofs.lemmas.Int.{ints, int_rem_euclid_is}
use Rattle.std.proofs.lemmas.Nat.{mod_below, mul-mod}
use Rattle.dream_words.specs.Words.{low_part, sign_bit, sign_extended, signed_part, fits_signed, word_of, wide_number, shifted_signed}
use Rattle.x86_inst.specs.declared.Size.{Size}
use Rattle.x86_inst.specs.declared.Size.TheVariants.{B, H, W}
use Rattle.x86_model.specs.Operands.{bits_of}
use Rattle.lift_blocks.proofs.MoveWords.{extended_by, extended_is}

-- ---- products

-- the word of a number below 0
opposite_is : (m v : ℕ) → (v + m) % 2 ^ 32 ≡ 0 → v < 2 ^ 32 → word_of 32 (neg_ℤ (pos m)) ≡ v
opposite_is m v e h =
    let q : (v + m) / 2 ^ 32 * 2 ^ 32 + (v + m) % 2 ^ 32 ≡ v + m = div-add-mod' (v + m) (2 ^ 32) in
    let f : (v + m) / 2 ^ 32 * 2 ^ 32 ≡ v + m = omega arith in
    ap unsigned_abs (int_rem_euclid_is (neg_ℤ (pos m)) (pos (2 ^ 32)) (2 ^ 32) ((v + m) / 2 ^ 32) v (omega arith) refl (omega (arith, ints))) ∙ mod-eq_of_lt h

-- a word and the number below 0 that it stands for
complement : (b : ℕ) → (2 ^ 32 - 1 - b % 2 ^ 32) + suc b ≡ (b / 2 ^ 32 + 1) * 2 ^ 32
complement b = omega arith

-- one factor is below 0
one_below : (n x y m k : ℕ) → y + m ≡ k * n → (x * y % n + x * m) % n ≡ 0
one_below n x y m k e =
    let f : x * (y + m) ≡ x * (k * n) = ap (λ z. x * z) e in
    let g : x * y + x * m ≡ x * k * n = grind arith in
    mod-add-mod (x * y) n (x * m) ∙ ap (λ z. z % n) g ∙ mul-mod_left (x * k) n

-- both are
two_below : (n x y m k i j : ℕ) → x + m ≡ i * n → y + k ≡ j * n → (m * k) % n ≡ (x * y) % n
two_below n x y m k i j e f =
    let here : x * (y + k) ≡ x * (j * n) = ap (λ z. x * z) f in
    let there : (x + m) * k ≡ i * n * k = ap (λ z. z * k) e in
    let both : m * k + x * j * n ≡ x * y + i * k * n = grind arith in
    sym (add-mul-mod_self_right (m * k) (x * j) n) ∙ ap (λ z. z % n) both ∙ add-mul-mod_self_right (x * y) (i * k) n

-- a factor is taken to 32 bits
factor_taken : (a x : ℕ) → x < 2 ^ 32 → low_part 32 (a * x) ≡ low_part 32 (a % 2 ^ 32 * x)
factor_taken a x h = mul-mod a x (2 ^ 32) ∙ ap (λ z. low_part 32 (a % 2 ^ 32 * z)) (mod-eq_of_lt h)

mixed : (a b : ℕ) → word_of 32 (neg_ℤ (pos (a * suc b))) ≡ low_part 32 (a % 2 ^ 32 * (2 ^ 32 - 1 - b % 2 ^ 32))
mixed a b =
    let x : ℕ = 2 ^ 32 - 1 - b % 2 ^ 32 in
    opposite_is (a * suc b) (low_part 32 (a * x)) (one_below (2 ^ 32) a x (suc b) (b / 2 ^ 32 + 1) (complement b)) (mod_below (a * x) (2 ^ 32) (omega arith))
    ∙ factor_taken a x (omega arith)

-- the word of a product is the product of the words
pub product_taken : (a b : ℤ) → word_of 32 (a *ℤ b) ≡ low_part 32 (word_of 32 a * word_of 32 b)
product_taken (pos a) (pos b) = mul-mod a b (2 ^ 32)
product_taken (pos a) (negsuc b) = mixed a b
product_taken (negsuc a) (pos b) =
    ap (λ m. word_of 32 (neg_ℤ (pos m))) (mul_comm (suc a) b) ∙ mixed b a ∙ ap (low_part 32) (mul_comm (b % 2 ^ 32) (2 ^ 32 - 1 - a % 2 ^ 32))
product_taken (negsuc a) (negsuc b) = two_below (2 ^ 32) (2 ^ 32 - 1 - a % 2 ^ 32) (2 ^ 32 - 1 - b % 2 ^ 32) (suc a) (suc b) (a / 2 ^ 32 + 1) (b / 2 ^ 32 + 1) (complement a) (complement b)

-- ---- low parts

pub low_of_word : (size : Size) (z : ℤ) → low_part (bits_of size) (word_of 32 z) ≡ word_of (bits_of size) z
low_of_word B (pos a) = omega arith
low_of_word B (negsuc a) = omega arith
low_of_word H (pos a) = omega arith
low_of_word H (negsuc a) = omega arith
low_of_word W (pos a) = omega arith
low_of_word W (negsuc a) = omega arith

-- ---- numbers that fit

-- by the sign of the low part
abbrev FitsBy : ℕ → Bool → ℤ → Type 0
FitsBy bits s z = sign_bit bits (word_of 32 z) ≡ s → fits_signed 32 z ≡ true → fits_signed bits z ≡ nat_eq (extended_by s (2 ^ bits) (low_part bits (word_of 32 z))) (word_of 32 z)

fits_byte : (s : Bool) (z : ℤ) → FitsBy 8 s z
fits_byte true (pos a) h k = grind (arith, nat_tests, ints)
fits_byte true (negsuc a) h k = grind (arith, nat_tests, ints)
fits_byte false (pos a) h k = grind (arith, nat_tests, ints)
fits_byte false (negsuc a) h k = grind (arith, nat_tests, ints)

fits_half : (s : Bool) (z : ℤ) → FitsBy 16 s z
fits_half true (pos a) h k = grind (arith, nat_tests, ints)
fits_half true (negsuc a) h k = grind (arith, nat_tests, ints)
fits_half false (pos a) h k = grind (arith, nat_tests, ints)
fits_half false (negsuc a) h k = grind (arith, nat_tests, ints)

-- ---- extended words as numbers

signed_by : (s : Bool) (half low : ℕ) → half ≤ 2 ^ 31 → low < half + half → nat_le half low ≡ s
    → signed_part 32 (extended_by s (half + half) low) ≡ (if s then pos low -ℤ pos (half + half) else pos low)
signed_by true half low k l h =
    let p : half ≤ low = grind (arith, nat_tests) in
    let t : sign_bit 32 (low + (2 ^ 32 - (half + half))) ≡ true = grind (arith, nat_tests) in
    rw t (omega (arith, ints))
signed_by false half low k l h =
    let p : low < half = grind (arith, nat_tests) in
    let t : sign_bit 32 low ≡ false = grind (arith, nat_tests) in
    rw t (omega (arith, ints))

pub extended_signed : (size : Size) (x : ℕ) → signed_part 32 (sign_extended (bits_of size) x) ≡ signed_part (bits_of size) x
extended_signed B x = ap (signed_part 32) (extended_is B x) ∙ signed_by (sign_bit 8 x) (2 ^ 7) (low_part 8 x) (omega arith) (omega arith) refl
extended_signed H x = ap (signed_part 32) (extended_is H x) ∙ signed_by (sign_bit 16 x) (2 ^ 15) (low_part 16 x) (omega arith) (omega arith) refl
extended_signed W x = ap (signed_part 32) (extended_is W x) ∙ signed_by (sign_bit 32 x) (2 ^ 31) (low_part 32 x) (omega arith) (omega arith) refl

-- two words of which the high one is copies of the sign of the low one
wide_by : (s : Bool) (l : ℕ) → l < 2 ^ 32 → sign_bit 32 l ≡ s → signed_part 64 (wide_number 32 (shifted_signed l 31) l) ≡ (if s then pos (low_part 32 l) -ℤ pos (2 ^ 32) else pos (low_part 32 l))
wide_by true l h e =
    let p : 2 ^ 31 ≤ l = grind (arith, nat_tests) in
    let high : shifted_signed l 31 ≡ 2 ^ 32 - 1 = rw e (omega arith) in
    let t : sign_bit 64 (wide_number 32 (2 ^ 32 - 1) l) ≡ true = grind (arith, nat_tests) in
    ap (λ k. signed_part 64 (wide_number 32 k l)) high ∙ rw t (omega (arith, ints))
wide_by false l h e =
    let high : shifted_signed l 31 ≡ 0 = rw e (grind (arith, nat_tests)) in
    let t : sign_bit 64 (wide_number 32 0 l) ≡ false = grind (arith, nat_tests) in
    ap (λ k. signed_part 64 (wide_number 32 k l)) high ∙ rw t (omega (arith, ints))

pub wide_signed : (l : ℕ) → l < 2 ^ 32 → signed_part 64 (wide_number 32 (shifted_signed l 31) l) ≡ signed_part 32 l
wide_signed l h = wide_by (sign_bit 32 l) l h refl

-- a number that a signed word can hold fits a smaller size where its word is its own low part extended
pub fits_byte_is : (z : ℤ) → fits_signed 32 z ≡ true → fits_signed 8 z ≡ nat_eq (sign_extended 8 (word_of 32 z)) (word_of 32 z)
fits_byte_is z k = fits_byte (sign_bit 8 (word_of 32 z)) z refl k ∙ ap (λ n. nat_eq n (word_of 32 z)) (sym (extended_is B (word_of 32 z)))

pub fits_half_is : (z : ℤ) → fits_signed 32 z ≡ true → fits_signed 16 z ≡ nat_eq (sign_extended 16 (word_of 32 z)) (word_of 32 z)
fits_half_is z k = fits_half (sign_bit 16 (word_of 32 z)) z refl k ∙ ap (λ n. nat_eq n (word_of 32 z)) (sym (extended_is H (word_of 32 z)))
