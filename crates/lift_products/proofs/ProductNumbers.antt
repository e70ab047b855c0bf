-- The words of a product have its parts and its overflow.
use Rattle.std.proofs.Common.{◌≡◌, ℕ, ℤ, zero, suc, pos, negsuc, neg_ℤ, ◌+◌, ◌-◌, ◌*◌, ◌/◌, ◌%◌, ◌^◌, ◌<◌, ◌≤◌, ◌*ℤ◌, ◌-ℤ◌, Bool, true, false, not, nat_eq, nat_le, int_le, if◌then◌else◌, refl, sym, ap, ◌∙◌, arith, inr}
use Rattle.std.proofs.Math.Nat.{mod-eq_of_lt, mul-le-mul, div-le_self}
use Rattle.std.proofs.lemmas.Bool.Decides.{nat_tests}
use Rattle.std.proofs.lemmas.Int.{ints}
use Rattle.std.proofs.lemmas.Nat.{mod_below, mul-mod, pow_pos}
use Rattle.dream_words.specs.Words.{low_part, sign_bit, sign_extended, signed_part, fits_signed, word_of, high_product, high_signed_product, shifted_signed}
use Rattle.x86_inst.specs.declared.Size.{Size}
use Rattle.x86_inst.specs.declared.Size.TheVariants.{B, H, W}
use Rattle.x86_model.specs.Arithmetic.{product_overflows, sign_copies}
use Rattle.x86_model.specs.Operands.{bits_of}
use Rattle.x86_model.proofs.Halves.{overflows_by_word}
use Rattle.lift_parts.proofs.Values.{low_again, word_fits}
use Rattle.lift_blocks.proofs.MoveWords.{extended_below, extended_by, extended_is}
use Rattle.lift_products.proofs.Factors.{factor_of, product_of, high_value, overflow_value, IsProduct}
use Rattle.lift_products.proofs.Wholes.{product_taken, low_of_word, extended_signed, fits_byte_is, fits_half_is}

-- ---- low parts

low_twice : (size : Size) (n : ℕ) → low_part (bits_of size) (low_part 32 n) ≡ low_part (bits_of size) n
low_twice B n = omega arith
low_twice H n = omega arith
low_twice W n = omega arith

-- an extended word has the low part that was extended
extended_low_by : (size : Size) (s : Bool) (x : ℕ) → low_part (bits_of size) (extended_by s (2 ^ bits_of size) (low_part (bits_of size) x)) ≡ low_part (bits_of size) x
extended_low_by B true x = omega arith
extended_low_by H true x = omega arith
extended_low_by W true x = omega arith
extended_low_by size false x = low_again size x

factor_low : (signed : Bool) (size : Size) (x : ℕ) → low_part (bits_of size) (factor_of signed size x) ≡ low_part (bits_of size) x
factor_low true size x = ap (low_part (bits_of size)) (extended_is size x) ∙ extended_low_by size (sign_bit (bits_of size) x) x
factor_low false size x = refl

product_low : (signed : Bool) (size : Size) (x y : ℕ) → low_part (bits_of size) (product_of signed size x y) ≡ low_part (bits_of size) (x * y)
product_low signed size x y =
    let n : ℕ = 2 ^ bits_of size in
    low_twice size (factor_of signed size x * factor_of signed size y)
    ∙ mul-mod (factor_of signed size x) (factor_of signed size y) n
    ∙ ap (λ z. (z * (factor_of signed size y % n)) % n) (factor_low signed size x)
    ∙ ap (λ z. (x % n * z) % n) (factor_low signed size y)
    ∙ sym (mul-mod x y n)

-- ---- unsigned products

product_below : (x y : ℕ) → x < 2 ^ 16 → y < 2 ^ 16 → x * y < 2 ^ 32
product_below x y h k =
    let i : x ≤ 2 ^ 16 - 1 = omega arith in
    let j : y ≤ 2 ^ 16 - 1 = omega arith in
    let p : x * y ≤ (2 ^ 16 - 1) * (2 ^ 16 - 1) = mul-le-mul i j in
    omega arith

unsigned_high : (size : Size) (x y : ℕ) → x < 2 ^ bits_of size → y < 2 ^ bits_of size → high_value false size x y ≡ high_product (bits_of size) x y
unsigned_high B x y h k =
    let l : x * y < 2 ^ 32 = product_below x y (omega arith) (omega arith) in
    ap (λ z. z / 2 ^ 8) (mod-eq_of_lt l) ∙ ap (λ z. z * y / 2 ^ 8) (sym (mod-eq_of_lt h)) ∙ ap (λ z. low_part 8 x * z / 2 ^ 8) (sym (mod-eq_of_lt k))
unsigned_high H x y h k =
    let l : x * y < 2 ^ 32 = product_below x y h k in
    ap (λ z. z / 2 ^ 16) (mod-eq_of_lt l) ∙ ap (λ z. z * y / 2 ^ 16) (sym (mod-eq_of_lt h)) ∙ ap (λ z. low_part 16 x * z / 2 ^ 16) (sym (mod-eq_of_lt k))
unsigned_high W x y h k = refl

-- ---- signed products

-- the product of the numbers, as a word
whole : (size : Size) (x y : ℕ) → product_of true size x y ≡ word_of 32 (signed_part (bits_of size) x *ℤ signed_part (bits_of size) y)
whole size x y = sym (product_taken (signed_part (bits_of size) x) (signed_part (bits_of size) y))

second_byte : (w : ℕ) → low_part 8 (w / 2 ^ 8) ≡ low_part 8 (low_part 16 w / 2 ^ 8)
second_byte w = omega arith

word_high : (x y : ℕ) → high_value true W x y ≡ high_signed_product 32 x y
word_high x y =
    ap (λ z. word_of 64 (z *ℤ signed_part 32 (sign_extended 32 y)) / 2 ^ 32) (extended_signed W x)
    ∙ ap (λ z. word_of 64 (signed_part 32 x *ℤ z) / 2 ^ 32) (extended_signed W y)

signed_high : (size : Size) (x y : ℕ) → low_part (bits_of size) (high_value true size x y) ≡ low_part (bits_of size) (high_signed_product (bits_of size) x y)
signed_high B x y =
    let z : ℤ = signed_part 8 x *ℤ signed_part 8 y in
    ap (λ p. low_part 8 (p / 2 ^ 8)) (whole B x y) ∙ second_byte (word_of 32 z) ∙ ap (λ p. low_part 8 (p / 2 ^ 8)) (low_of_word H z)
signed_high H x y = ap (λ p. low_part 16 (p / 2 ^ 16)) (whole H x y)
signed_high W x y = ap (low_part 32) (word_high x y)

-- a number is at most so far from 0
record IsWithin (n : ℕ) (z : ℤ) : Type 0 where
  above : int_le (neg_ℤ (pos n)) z ≡ true
  below : int_le z (pos n) ≡ true

part_within : (s : Bool) (half low : ℕ) → low < half + half → nat_le half low ≡ s → IsWithin half (if s then pos low -ℤ pos (half + half) else pos low)
part_within true half low h e = record { above = grind (arith, nat_tests, ints); below = grind (arith, nat_tests, ints) }
part_within false half low h e = record { above = grind (arith, nat_tests, ints); below = grind (arith, nat_tests, ints) }

-- a product of at most 2^30 fits 32 bits
small_fits : (m : ℕ) → m ≤ 2 ^ 30 → fits_signed 32 (pos m) ≡ true
small_fits m h = grind (arith, nat_tests, ints)

small_opposite_fits : (m : ℕ) → m ≤ 2 ^ 30 → fits_signed 32 (neg_ℤ (pos m)) ≡ true
small_opposite_fits zero h = refl
small_opposite_fits (suc m) h = grind (arith, nat_tests, ints)

product_small : (m k : ℕ) → m ≤ 2 ^ 15 → k ≤ 2 ^ 15 → m * k ≤ 2 ^ 30
product_small m k h l = let p : m * k ≤ 2 ^ 15 * 2 ^ 15 = mul-le-mul h l in omega arith

product_fits : (a b : ℤ) → IsWithin (2 ^ 15) a → IsWithin (2 ^ 15) b → fits_signed 32 (a *ℤ b) ≡ true
product_fits (pos a) (pos b) h k =
    let p : a ≤ 2 ^ 15 = grind (arith, nat_tests, ints) in
    let q : b ≤ 2 ^ 15 = grind (arith, nat_tests, ints) in
    small_fits (a * b) (product_small a b p q)
product_fits (pos a) (negsuc b) h k =
    let p : a ≤ 2 ^ 15 = grind (arith, nat_tests, ints) in
    let q : suc b ≤ 2 ^ 15 = grind (arith, nat_tests, ints) in
    small_opposite_fits (a * suc b) (product_small a (suc b) p q)
product_fits (negsuc a) (pos b) h k =
    let p : suc a ≤ 2 ^ 15 = grind (arith, nat_tests, ints) in
    let q : b ≤ 2 ^ 15 = grind (arith, nat_tests, ints) in
    small_opposite_fits (suc a * b) (product_small (suc a) b p q)
product_fits (negsuc a) (negsuc b) h k =
    let p : suc a ≤ 2 ^ 15 = grind (arith, nat_tests, ints) in
    let q : suc b ≤ 2 ^ 15 = grind (arith, nat_tests, ints) in
    small_fits (suc a * suc b) (product_small (suc a) (suc b) p q)

half_within : (x : ℕ) → IsWithin (2 ^ 15) (signed_part 16 x)
half_within x = part_within (sign_bit 16 x) (2 ^ 15) (low_part 16 x) (omega arith) refl

byte_within : (x : ℕ) → IsWithin (2 ^ 15) (signed_part 8 x)
byte_within x =
    let p : IsWithin (2 ^ 7) (signed_part 8 x) = part_within (sign_bit 8 x) (2 ^ 7) (low_part 8 x) (omega arith) refl in
    wider (signed_part 8 x) p
  where
    wider : (z : ℤ) → IsWithin (2 ^ 7) z → IsWithin (2 ^ 15) z
    wider (pos a) h = record { above = grind (arith, nat_tests, ints); below = grind (arith, nat_tests, ints) }
    wider (negsuc a) h = record { above = grind (arith, nat_tests, ints); below = grind (arith, nat_tests, ints) }

-- the copies of a word's top bit
copies_by : (s : Bool) (p : ℕ) → p < 2 ^ 32 → sign_bit 32 p ≡ s → shifted_signed p 31 ≡ sign_copies 32 p
copies_by true p h e = let l : 2 ^ 31 ≤ p = grind (arith, nat_tests) in rw e (omega arith)
copies_by false p h e = let l : p < 2 ^ 31 = grind (arith, nat_tests) in rw e (omega arith)

signed_overflow : (size : Size) (x y : ℕ) → x < 2 ^ bits_of size → y < 2 ^ bits_of size
    → overflow_value true size (product_of true size x y) (high_value true size x y) ≡ product_overflows (bits_of size) x y
signed_overflow B x y h k =
    ap (λ p. not (nat_eq (sign_extended 8 p) p)) (whole B x y)
    ∙ ap not (sym (fits_byte_is (signed_part 8 x *ℤ signed_part 8 y) (product_fits (signed_part 8 x) (signed_part 8 y) (byte_within x) (byte_within y))))
signed_overflow H x y h k =
    ap (λ p. not (nat_eq (sign_extended 16 p) p)) (whole H x y)
    ∙ ap not (sym (fits_half_is (signed_part 16 x *ℤ signed_part 16 y) (product_fits (signed_part 16 x) (signed_part 16 y) (half_within x) (half_within y))))
signed_overflow W x y h k =
    let low : product_of true W x y ≡ x * y % 2 ^ 32 = sym (low_again W (factor_of true W x * factor_of true W y)) ∙ product_low true W x y in
    let word : x * y % 2 ^ 32 < 2 ^ 32 = mod_below (x * y) (2 ^ 32) (pow_pos 32) in
    ap (λ n. not (nat_eq n (shifted_signed (product_of true W x y) 31))) (word_high x y)
    ∙ ap (λ p. not (nat_eq (high_signed_product 32 x y) (shifted_signed p 31))) low
    ∙ ap (λ c. not (nat_eq (high_signed_product 32 x y) c)) (copies_by (sign_bit 32 (x * y % 2 ^ 32)) (x * y % 2 ^ 32) word refl)
    ∙ overflows_by_word 32 x y (inr (inr refl))

-- ---- both

pub product_is : (signed : Bool) (size : Size) (x y : ℕ) → x < 2 ^ bits_of size → y < 2 ^ bits_of size → IsProduct signed size x y
product_is true size x y h k = record {
  low = product_low true size x y ∙ sym (low_again size (x * y));
  high = signed_high size x y;
  overflow = signed_overflow size x y h k;
}
product_is false size x y h k = record {
  low = product_low false size x y ∙ sym (low_again size (x * y));
  high = ap (low_part (bits_of size)) (unsigned_high size x y h k);
  overflow = ap (λ n. not (nat_eq n 0)) (unsigned_high size x y h k);
}

-- ---- the words are below 2^32

pub factor_word : (signed : Bool) (size : Size) (x : ℕ) → x < 2 ^ bits_of size → factor_of signed size x < 2 ^ 32
factor_word true size x h = extended_below size x
factor_word false size x h = word_fits size x h

pub product_word_below : (signed : Bool) (size : Size) (x y : ℕ) → product_of signed size x y < 2 ^ 32
product_word_below signed size x y = mod_below (factor_of signed size x * factor_of signed size y) (2 ^ 32) (pow_pos 32)

high_of_word : (z : ℤ) → word_of 64 z / 2 ^ 32 < 2 ^ 32
high_of_word (pos a) = omega arith
high_of_word (negsuc a) = omega arith

high_of_product : (x y : ℕ) → high_product 32 x y < 2 ^ 32
high_of_product x y =
    let i : x % 2 ^ 32 ≤ 2 ^ 32 - 1 = omega arith in
    let j : y % 2 ^ 32 ≤ 2 ^ 32 - 1 = omega arith in
    let p : x % 2 ^ 32 * (y % 2 ^ 32) ≤ (2 ^ 32 - 1) * (2 ^ 32 - 1) = mul-le-mul i j in
    omega arith

divided_below : (n k : ℕ) → n < 2 ^ 32 → n / 2 ^ k < 2 ^ 32
divided_below n k h = let p : n / 2 ^ k ≤ n = div-le_self n (2 ^ k) in omega arith

pub high_word_below : (signed : Bool) (size : Size) (x y : ℕ) → high_value signed size x y < 2 ^ 32
high_word_below signed B x y = divided_below (product_of signed B x y) 8 (product_word_below signed B x y)
high_word_below signed H x y = divided_below (product_of signed H x y) 16 (product_word_below signed H x y)
high_word_below true W x y = high_of_word (signed_part 32 (sign_extended 32 x) *ℤ signed_part 32 (sign_extended 32 y))
high_word_below false W x y = high_of_product x y
