-- What the operators and the functions of a Word give. Words are whole numbers below 2^32.
use Rattle.std.specs.Prelude.{ℕ, ◌+◌, ◌-◌, ◌*◌, ◌/◌, ◌^◌, min, Bool, not, nat_eq, nat_lt, nat_le, int_lt, if◌then◌else◌, Option, Some, None, is_none, bit_and, bit_or, bit_xor}
use Rattle.dream_words.specs.Words.{low_part, bit_of, signed_part, sign_extended, high_product, high_signed_product, quotient_of, signed_quotient_of, has_even_ones, lowest_one, highest_one, shifted_signed}
use Rattle.c_syntax.specs.declared.syntax.CBin.{CBin}
use Rattle.c_syntax.specs.declared.syntax.CBin.TheVariants as bin
use Rattle.c_syntax.specs.declared.syntax.CCmp.{CCmp}
use Rattle.c_syntax.specs.declared.syntax.CCmp.TheVariants.{Eq, Ne, Lt, Le}
use Rattle.c_syntax.specs.declared.syntax.CFn1.{CFn1}
use Rattle.c_syntax.specs.declared.syntax.CFn1.TheVariants.{Sx1, Sx2, Par, Bsf, Bsr}
use Rattle.c_syntax.specs.declared.syntax.CFn2.{CFn2}
use Rattle.c_syntax.specs.declared.syntax.CFn2.TheVariants.{Sar, Lts, Mulhu, Mulhs}
use Rattle.c_syntax.specs.declared.syntax.CFn3.{CFn3}
use Rattle.c_syntax.specs.declared.syntax.CFn3.TheVariants.{Divubad, Divuq, Divur, Divsbad, Divsq, Divsr}

-- Unsigned words wrap modulo 2^32 (C99 6.2.5, 9). A shift by the width or more is undefined in C: here it is stuck
-- (C99 6.5.7, 3).
abbrev pub bin_of : CBin → ℕ → ℕ → Option ℕ
bin_of bin.Add a b = Some (low_part 32 (a + b))
bin_of bin.Sub a b = Some (low_part 32 (a + 2 ^ 32 - b))
bin_of bin.Mul a b = Some (low_part 32 (a * b))
bin_of bin.And a b = Some (bit_and a b)
bin_of bin.Or a b = Some (bit_or a b)
bin_of bin.Xor a b = Some (bit_xor a b)
bin_of bin.Shl a n = if nat_lt n 32 then Some (low_part 32 (a * 2 ^ n)) else None
bin_of bin.Shr a n = if nat_lt n 32 then Some (a / 2 ^ n) else None

-- comparisons of unsigned words (C99 6.5.8, 6.5.9)
abbrev pub cmp_of : CCmp → ℕ → ℕ → Bool
cmp_of Eq a b = nat_eq a b
cmp_of Ne a b = not (nat_eq a b)
cmp_of Lt a b = nat_lt a b
cmp_of Le a b = nat_le a b

-- the low bits extended by their sign; the parity of the low byte; the place of the lowest and of the highest bit set
abbrev pub fn1_of : CFn1 → ℕ → ℕ
fn1_of Sx1 a = sign_extended 8 a
fn1_of Sx2 a = sign_extended 16 a
fn1_of Par a = bit_of (has_even_ones a)
fn1_of Bsf a = lowest_one 31 a
fn1_of Bsr a = highest_one 32 a

-- a signed shift to the right, by 31 where the count is greater; less as signed numbers; the high words of products
abbrev pub fn2_of : CFn2 → ℕ → ℕ → ℕ
fn2_of Sar a n = shifted_signed a (min n 31)
fn2_of Lts a b = bit_of (int_lt (signed_part 32 a) (signed_part 32 b))
fn2_of Mulhu a b = high_product 32 a b
fn2_of Mulhs a b = high_signed_product 32 a b

-- quotient and remainder of a division; both are 0 where it has none
abbrev pub quotient : Option (ℕ × ℕ) → ℕ
quotient None = 0
quotient (Some q) = q.0

abbrev pub remainder : Option (ℕ × ℕ) → ℕ
remainder None = 0
remainder (Some q) = q.1

-- The divisions of a high word h and a low word l, as one number, by d. They are bad where d is 0 or the quotient
-- doesn't fit 32 bits; the signed ones truncate toward 0 (C99 6.5.5, 6).
abbrev pub fn3_of : CFn3 → ℕ → ℕ → ℕ → ℕ
fn3_of Divubad h l d = bit_of (is_none (quotient_of 32 h l d))
fn3_of Divuq h l d = quotient (quotient_of 32 h l d)
fn3_of Divur h l d = remainder (quotient_of 32 h l d)
fn3_of Divsbad h l d = bit_of (is_none (signed_quotient_of 32 h l d))
fn3_of Divsq h l d = quotient (signed_quotient_of 32 h l d)
fn3_of Divsr h l d = remainder (signed_quotient_of 32 h l d)
