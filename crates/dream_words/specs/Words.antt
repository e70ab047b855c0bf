-- Words of 8, 16 or 32 bits, as whole numbers: sums, products and quotients are those of whole numbers, taken to a size.
use Rattle.std.specs.Prelude.{◌≡◌, ◌⊎◌, ℕ, ℤ, zero, suc, pos, ◌+◌, ◌-◌, ◌*◌, ◌/◌, ◌%◌, ◌^◌, ◌+ℤ◌, ◌-ℤ◌, ◌*ℤ◌, nat_le, nat_lt, int_le, int_lt, int_div, int_rem, ◌==◌, ◌&&◌, ◌||◌, not, Bool, Option, Some, None, if◌then◌else◌, unsigned_abs, count_ones}
use Rattle.std.specs.Int.{int_rem_euclid}

-- a size that a word may have, in bits
abbrev pub IsSize : ℕ → Type 0
IsSize bits = (bits ≡ 8) ⊎ ((bits ≡ 16) ⊎ (bits ≡ 32))

-- a whole number taken to a size: modulo 2^bits (Intel SDM vol. 1, 4.2)
abbrev pub word_of : ℕ → ℤ → ℕ
word_of bits z = unsigned_abs (int_rem_euclid z (pos (2 ^ bits)))

-- the low bits of a word
abbrev pub low_part : ℕ → ℕ → ℕ
low_part bits v = v % 2 ^ bits

-- the top one of the low bits
abbrev pub sign_bit : ℕ → ℕ → Bool
sign_bit bits v = nat_le (2 ^ (bits - 1)) (low_part bits v)

-- the low bits, read as a signed number in two's complement (Intel SDM vol. 1, 4.2.1.2)
abbrev pub signed_part : ℕ → ℕ → ℤ
signed_part bits v = if sign_bit bits v then pos (low_part bits v) -ℤ pos (2 ^ bits) else pos (low_part bits v)

-- a signed word of the size can hold the number
abbrev pub fits_signed : ℕ → ℤ → Bool
fits_signed bits z = int_le (pos 0 -ℤ pos (2 ^ (bits - 1))) z && int_lt z (pos (2 ^ (bits - 1)))

-- 1 or 0
abbrev pub bit_of : Bool → ℕ
bit_of b = if b then 1 else 0

-- the low bits extended to 32 by copies of the sign
abbrev pub sign_extended : ℕ → ℕ → ℕ
sign_extended bits v = word_of 32 (signed_part bits v)

-- the sum, and the carry that comes in, don't fit
abbrev pub carries : ℕ → ℕ → ℕ → Bool → Bool
carries bits x y c = nat_le (2 ^ bits) (low_part bits x + low_part bits y + bit_of c)

-- the signed sum doesn't fit
abbrev pub sum_overflows : ℕ → ℕ → ℕ → Bool → Bool
sum_overflows bits x y c = not (fits_signed bits (signed_part bits x +ℤ signed_part bits y +ℤ pos (bit_of c)))

-- the difference is below 0
abbrev pub borrows : ℕ → ℕ → ℕ → Bool → Bool
borrows bits x y c = nat_lt (low_part bits x) (low_part bits y + bit_of c)

-- the signed difference doesn't fit
abbrev pub difference_overflows : ℕ → ℕ → ℕ → Bool → Bool
difference_overflows bits x y c = not (fits_signed bits (signed_part bits x -ℤ (signed_part bits y +ℤ pos (bit_of c))))

-- the high half of the product
abbrev pub high_product : ℕ → ℕ → ℕ → ℕ
high_product bits x y = low_part bits x * low_part bits y / 2 ^ bits

-- the high half of the signed product
abbrev pub high_signed_product : ℕ → ℕ → ℕ → ℕ
high_signed_product bits x y = word_of (bits + bits) (signed_part bits x *ℤ signed_part bits y) / 2 ^ bits

-- two words as one number of twice the size
abbrev pub wide_number : ℕ → ℕ → ℕ → ℕ
wide_number bits hi lo = low_part bits hi * 2 ^ bits + low_part bits lo

-- quotient and remainder of two words by a third, where the divisor isn't 0 and the quotient fits (Intel SDM vol. 2, DIV)
abbrev pub quotient_of : ℕ → ℕ → ℕ → ℕ → Option (ℕ × ℕ)
quotient_of bits hi lo d =
    let n = wide_number bits hi lo in
    if low_part bits d == 0 || nat_le (2 ^ bits) (n / low_part bits d) then None else Some (n / low_part bits d, n % low_part bits d)

-- the same of signed numbers; the quotient is truncated toward 0 (Intel SDM vol. 2, IDIV)
abbrev pub signed_quotient_of : ℕ → ℕ → ℕ → ℕ → Option (ℕ × ℕ)
signed_quotient_of bits hi lo d =
    let n = signed_part (bits + bits) (wide_number bits hi lo) in
    let q = int_div n (signed_part bits d) in
    if low_part bits d == 0 || not (fits_signed bits q) then None
    else Some (word_of bits q, word_of bits (int_rem n (signed_part bits d)))

-- the low byte has an even number of ones (Intel SDM vol. 1, 3.4.3.1, PF)
abbrev pub has_even_ones : ℕ → Bool
has_even_ones v = count_ones (v % 2 ^ 8) % 2 == 0

-- the place of the lowest of the low k bits that is 1, or k where none is
unfoldable pub lowest_one : ℕ → ℕ → ℕ
lowest_one zero v = 0
lowest_one (suc k) v = if v % 2 == 1 then 0 else lowest_one k (v / 2) + 1

-- the place of the highest of the low k bits that is 1, or 0 where none is
unfoldable pub highest_one : ℕ → ℕ → ℕ
highest_one zero v = 0
highest_one (suc k) v = if nat_le (2 ^ k) v then k else highest_one k v

-- a 32-bit word shifted to the right by n, with copies of its top bit from above
abbrev pub shifted_signed : ℕ → ℕ → ℕ
shifted_signed v n = if sign_bit 32 v then 2 ^ 32 - 1 - (2 ^ 32 - 1 - v) / 2 ^ n else v / 2 ^ n
