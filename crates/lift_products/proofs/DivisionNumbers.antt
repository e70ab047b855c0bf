-- Quotients below 32 bits by those of 32 bits: where one of the size is none, the words say so, else they have its parts.
use Rattle.std.proofs.Common.{◌≡◌, ℕ, ℤ, pos, negsuc, ◌-◌, ◌/◌, ◌%◌, ◌^◌, ◌<◌, ◌≤◌, Bool, true, false, not, nat_eq, nat_le, nat_lt, ◌||◌, Option, Some, None, bit_or, refl, sym, ap, ◌∙◌, subst, arith}
use Rattle.std.specs.Prelude.{if◌then◌else◌, int_div, int_rem, is_none}
use Rattle.std.proofs.Math.Nat.{div-le_self, mod-eq_of_lt}
use Rattle.std.proofs.lemmas.Bool.Decides.{nat_tests}
use Rattle.std.proofs.lemmas.Int.{ints}
use Rattle.std.proofs.lemmas.Nat.{pow_pos}
use Rattle.dream_words.specs.Words.{bit_of, fits_signed, low_part, quotient_of, shifted_signed, sign_bit, sign_extended, signed_part, signed_quotient_of, wide_number, word_of}
use Rattle.x86_inst.specs.declared.Size.{Size}
use Rattle.x86_inst.specs.declared.Size.TheVariants.{B, H, W}
use Rattle.x86_model.specs.Operands.{bits_of}
use Rattle.c_syntax.specs.Words.{quotient, remainder}
use Rattle.lift_parts.proofs.Values.{low_again}
use Rattle.lift_blocks.proofs.MoveWords.{extended_by, extended_is}
use Rattle.lift_products.proofs.Wholes.{extended_signed, fits_byte_is, fits_half_is, low_of_word, wide_signed}

-- whether a quotient of 32 bits doesn't fit a size
abbrev pub unfits : Bool → Size → ℕ → Bool
unfits true size q = not (nat_eq (sign_extended (bits_of size) q) q)
unfits false size q = nat_lt (2 ^ bits_of size - 1) q

-- the word that isn't 0 where there is no quotient, by the quotient of 32 bits
abbrev pub bad_value : Bool → Size → Option (ℕ × ℕ) → ℕ
bad_value signed B p = bit_or (bit_of (is_none p)) (bit_of (unfits signed B (quotient p)))
bad_value signed H p = bit_or (bit_of (is_none p)) (bit_of (unfits signed H (quotient p)))
bad_value signed W p = bit_of (is_none p)

-- What a word and a quotient p of 32 bits say of a quotient of a size: the word isn't 0 exactly where there is none, and
-- else p has its low parts.
abbrev pub Tells : ℕ → ℕ → Option (ℕ × ℕ) → Option (ℕ × ℕ) → Type 0
Tells bits bad p None = nat_eq bad 0 ≡ false
Tells bits bad p (Some (q, r)) = (bad ≡ 0) × (low_part bits (quotient p) ≡ low_part bits q) × (low_part bits (remainder p) ≡ low_part bits r)

-- ---- at 32 bits

pub whole_tells : (signed : Bool) (p : Option (ℕ × ℕ)) → Tells 32 (bad_value signed W p) p p
whole_tells signed None = refl
whole_tells signed (Some (q, r)) = (refl, refl, refl)

-- ---- without sign

one_or : (b : Bool) → nat_eq (bit_or 1 (bit_of b)) 0 ≡ false
one_or true = refl
one_or false = refl

-- by whether the divisor is 0, and whether the quotient doesn't fit
unsigned_by : (bits q r : ℕ) (z y u : Bool) → u ≡ y
    → let p : Option (ℕ × ℕ) = if z then None else Some (q, r) in
    (if z then nat_lt (2 ^ bits - 1) 0 else u) ≡ nat_lt (2 ^ bits - 1) (quotient p)
    → Tells bits (bit_or (bit_of (is_none p)) (bit_of (nat_lt (2 ^ bits - 1) (quotient p)))) p (if z || y then None else Some (q, r))
unsigned_by bits q r true y u e f = one_or (nat_lt (2 ^ bits - 1) 0)
unsigned_by bits q r false true u e f = ap (λ t. nat_eq (bit_or 0 (bit_of t)) 0) (sym f ∙ e)
unsigned_by bits q r false false u e f = (ap (λ t. bit_or 0 (bit_of t)) (sym f ∙ e), refl, refl)

-- a quotient of 32 bits by a word, of a dividend that is one word
fits_whole : (n d : ℕ) → n < 2 ^ 32 → nat_le (2 ^ 32) (n / d) ≡ false
fits_whole n d h = let p : n / d ≤ n = div-le_self n d in grind (arith, nat_tests)

abbrev plain : ℕ → ℕ → Option (ℕ × ℕ)
plain n d = if nat_eq d 0 then None else Some (n / d, n % d)

plain_by : (z y : Bool) (q r : ℕ) → y ≡ false → ◌≡◌ {A = Option (ℕ × ℕ)} (if z || y then None else Some (q, r)) (if z then None else Some (q, r))
plain_by true y q r e = refl
plain_by false y q r e = ap (λ y. if y then None else Some (q, r)) e

plain_is : (n d : ℕ) → n < 2 ^ 32 → d < 2 ^ 32 → quotient_of 32 0 n d ≡ plain n d
plain_is n d h k =
    let a : low_part 32 d ≡ d = mod-eq_of_lt k in
    let b : wide_number 32 0 n ≡ n = omega arith in
    ap (λ d. if nat_eq d 0 || nat_le (2 ^ 32) (wide_number 32 0 n / d) then None else Some (wide_number 32 0 n / d, wide_number 32 0 n % d)) a
    ∙ ap (λ n. if nat_eq d 0 || nat_le (2 ^ 32) (n / d) then None else Some (n / d, n % d)) b
    ∙ plain_by (nat_eq d 0) (nat_le (2 ^ 32) (n / d)) (n / d) (n % d) (fits_whole n d h)

over_is : (m q : ℕ) → 0 < m → nat_lt (m - 1) q ≡ nat_le m q
over_is m q h = grind (arith, nat_tests)

-- the test of the quotient, by cases on the divisor
over_by : (m q r : ℕ) (z : Bool) → (if z then nat_lt (m - 1) 0 else nat_lt (m - 1) q) ≡ nat_lt (m - 1) (quotient (if z then None else Some (q, r)))
over_by m q r true = refl
over_by m q r false = refl

-- a quotient of a size, by a divisor that fits it
sized_is : (bits hi lo d : ℕ) → d < 2 ^ bits
    → ◌≡◌ {A = Option (ℕ × ℕ)} (if nat_eq d 0 || nat_le (2 ^ bits) (wide_number bits hi lo / d) then None else Some (wide_number bits hi lo / d, wide_number bits hi lo % d)) (quotient_of bits hi lo d)
sized_is bits hi lo d h =
    ap (λ d. if nat_eq d 0 || nat_le (2 ^ bits) (wide_number bits hi lo / d) then None else Some (wide_number bits hi lo / d, wide_number bits hi lo % d)) (sym (mod-eq_of_lt h))

-- the words of the plain quotient tell of that of a size
unsigned_tells : (bits hi lo d : ℕ) → d < 2 ^ bits
    → let p : Option (ℕ × ℕ) = plain (wide_number bits hi lo) d in
    Tells bits (bit_or (bit_of (is_none p)) (bit_of (nat_lt (2 ^ bits - 1) (quotient p)))) p (quotient_of bits hi lo d)
unsigned_tells bits hi lo d h =
    let n : ℕ = wide_number bits hi lo in
    let p : Option (ℕ × ℕ) = plain n d in
    subst (Tells bits (bit_or (bit_of (is_none p)) (bit_of (nat_lt (2 ^ bits - 1) (quotient p)))) p) (sized_is bits hi lo d h)
    (unsigned_by bits (n / d) (n % d) (nat_eq d 0) (nat_le (2 ^ bits) (n / d)) (nat_lt (2 ^ bits - 1) (n / d)) (over_is (2 ^ bits) (n / d) (pow_pos bits)) (over_by (2 ^ bits) (n / d) (n % d) (nat_eq d 0)))

byte_dividend : (hi lo : ℕ) → wide_number 8 hi lo < 2 ^ 32
byte_dividend hi lo = omega arith

half_dividend : (hi lo : ℕ) → wide_number 16 hi lo < 2 ^ 32
half_dividend hi lo = omega arith

pub byte_tells : (hi lo d : ℕ) → d < 2 ^ 8 → Tells 8 (bad_value false B (quotient_of 32 0 (wide_number 8 hi lo) d)) (quotient_of 32 0 (wide_number 8 hi lo) d) (quotient_of 8 hi lo d)
byte_tells hi lo d h =
    subst (λ p. Tells 8 (bad_value false B p) p (quotient_of 8 hi lo d)) (sym (plain_is (wide_number 8 hi lo) d (byte_dividend hi lo) (omega arith))) (unsigned_tells 8 hi lo d h)

pub half_tells : (hi lo d : ℕ) → d < 2 ^ 16 → Tells 16 (bad_value false H (quotient_of 32 0 (wide_number 16 hi lo) d)) (quotient_of 32 0 (wide_number 16 hi lo) d) (quotient_of 16 hi lo d)
half_tells hi lo d h =
    subst (λ p. Tells 16 (bad_value false H p) p (quotient_of 16 hi lo d)) (sym (plain_is (wide_number 16 hi lo) d (half_dividend hi lo) (omega arith))) (unsigned_tells 16 hi lo d h)

-- ---- with sign

-- a quotient of two numbers at a size
abbrev pub from_wholes : ℕ → Bool → ℤ → ℤ → Option (ℕ × ℕ)
from_wholes bits z n d = if z || not (fits_signed bits (int_div n d)) then None else Some (word_of bits (int_div n d), word_of bits (int_rem n d))

-- a word of 32 bits has the low part of that of a size
lower : (size : Size) (z : ℤ) → low_part (bits_of size) (word_of 32 z) ≡ low_part (bits_of size) (word_of (bits_of size) z)
lower size z = sym (low_again size (word_of 32 z)) ∙ ap (low_part (bits_of size)) (low_of_word size z)

-- by whether the divisor is 0, and whether the quotient fits 32 bits and the size
signed_by : (size : Size) (q r : ℤ) (z x y u : Bool)
    → let p : Option (ℕ × ℕ) = if z || not x then None else Some (word_of 32 q, word_of 32 r) in
    (z ≡ false → x ≡ true → u ≡ not y) → (y ≡ true → x ≡ true)
    → Tells (bits_of size) (bit_or (bit_of (is_none p)) (bit_of u)) p (if z || not y then None else Some (word_of (bits_of size) q, word_of (bits_of size) r))
signed_by size q r true x y u f g = one_or u
signed_by size q r false false true u f g = let n : false ≡ true = g refl in absurd cc
signed_by size q r false false false u f g = one_or u
signed_by size q r false true false u f g = ap (λ t. nat_eq (bit_or 0 (bit_of t)) 0) (f refl refl)
signed_by size q r false true true u f g = (ap (λ t. bit_or 0 (bit_of t)) (f refl refl), lower size q, lower size r)

-- where the divisor isn't 0 and the quotient fits 32 bits
quotient_by : (z x : Bool) (q r : ℕ) → z ≡ false → x ≡ true → quotient (if z || not x then None else Some (q, r)) ≡ q
quotient_by false true q r e f = refl
quotient_by true x q r e f = absurd cc
quotient_by false false q r e f = absurd cc

-- what fits a size fits 32 bits
byte_in_word : (z : ℤ) → fits_signed 8 z ≡ true → fits_signed 32 z ≡ true
byte_in_word (pos a) h = grind (arith, nat_tests, ints)
byte_in_word (negsuc a) h = grind (arith, nat_tests, ints)

half_in_word : (z : ℤ) → fits_signed 16 z ≡ true → fits_signed 32 z ≡ true
half_in_word (pos a) h = grind (arith, nat_tests, ints)
half_in_word (negsuc a) h = grind (arith, nat_tests, ints)

-- the words of a quotient of 32 bits tell of that of a size
byte_from : (z : Bool) (n d : ℤ) → Tells 8 (bad_value true B (from_wholes 32 z n d)) (from_wholes 32 z n d) (from_wholes 8 z n d)
byte_from z n d =
    let q : ℤ = int_div n d in
    let r : ℤ = int_rem n d in
    signed_by B q r z (fits_signed 32 q) (fits_signed 8 q) (unfits true B (quotient (from_wholes 32 z n d)))
    (λ e f. ap (unfits true B) (quotient_by z (fits_signed 32 q) (word_of 32 q) (word_of 32 r) e f) ∙ ap not (sym (fits_byte_is q f))) (byte_in_word q)

half_from : (z : Bool) (n d : ℤ) → Tells 16 (bad_value true H (from_wholes 32 z n d)) (from_wholes 32 z n d) (from_wholes 16 z n d)
half_from z n d =
    let q : ℤ = int_div n d in
    let r : ℤ = int_rem n d in
    signed_by H q r z (fits_signed 32 q) (fits_signed 16 q) (unfits true H (quotient (from_wholes 32 z n d)))
    (λ e f. ap (unfits true H) (quotient_by z (fits_signed 32 q) (word_of 32 q) (word_of 32 r) e f) ∙ ap not (sym (fits_half_is q f))) (half_in_word q)

-- an extended divisor is 0 where the divisor is
zero_by : (size : Size) (s : Bool) (d : ℕ) → sign_bit (bits_of size) d ≡ s → nat_eq (low_part 32 (extended_by s (2 ^ bits_of size) (low_part (bits_of size) d))) 0 ≡ nat_eq (low_part (bits_of size) d) 0
zero_by B true d e = grind (arith, nat_tests)
zero_by H true d e = grind (arith, nat_tests)
zero_by W true d e = grind (arith, nat_tests)
zero_by B false d e = grind (arith, nat_tests)
zero_by H false d e = grind (arith, nat_tests)
zero_by W false d e = grind (arith, nat_tests)

-- a quotient of 32 bits of a dividend that is extended from one word, by an extended divisor
extended_quotient : (size : Size) (l d : ℕ) (n : ℤ) → l < 2 ^ 32 → signed_part 32 l ≡ n
    → signed_quotient_of 32 (shifted_signed l 31) l (sign_extended (bits_of size) d) ≡ from_wholes 32 (nat_eq (low_part (bits_of size) d) 0) n (signed_part (bits_of size) d)
extended_quotient size l d n h e =
    let x : ℕ = sign_extended (bits_of size) d in
    ap (λ m. from_wholes 32 (nat_eq (low_part 32 x) 0) m (signed_part 32 x)) (wide_signed l h ∙ e)
    ∙ ap (λ m. from_wholes 32 (nat_eq (low_part 32 x) 0) n m) (extended_signed size d)
    ∙ ap (λ z. from_wholes 32 z n (signed_part (bits_of size) d))
    (ap (λ y. nat_eq (low_part 32 y) 0) (extended_is size d) ∙ zero_by size (sign_bit (bits_of size) d) d refl)

pub byte_signed_tells : (l hi lo d : ℕ) → l < 2 ^ 32 → signed_part 32 l ≡ signed_part 16 (wide_number 8 hi lo)
    → let p : Option (ℕ × ℕ) = signed_quotient_of 32 (shifted_signed l 31) l (sign_extended 8 d) in
    Tells 8 (bad_value true B p) p (signed_quotient_of 8 hi lo d)
byte_signed_tells l hi lo d h e =
    subst (λ p. Tells 8 (bad_value true B p) p (signed_quotient_of 8 hi lo d)) (sym (extended_quotient B l d (signed_part 16 (wide_number 8 hi lo)) h e))
    (byte_from (nat_eq (low_part 8 d) 0) (signed_part 16 (wide_number 8 hi lo)) (signed_part 8 d))

pub half_signed_tells : (l hi lo d : ℕ) → l < 2 ^ 32 → signed_part 32 l ≡ signed_part 32 (wide_number 16 hi lo)
    → let p : Option (ℕ × ℕ) = signed_quotient_of 32 (shifted_signed l 31) l (sign_extended 16 d) in
    Tells 16 (bad_value true H p) p (signed_quotient_of 16 hi lo d)
half_signed_tells l hi lo d h e =
    subst (λ p. Tells 16 (bad_value true H p) p (signed_quotient_of 16 hi lo d)) (sym (extended_quotient H l d (signed_part 32 (wide_number 16 hi lo)) h e))
    (half_from (nat_eq (low_part 16 d) 0) (signed_part 32 (wide_number 16 hi lo)) (signed_part 16 d))
