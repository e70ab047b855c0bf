-- Numbers as they are written on the command line.
use Rattle.std.specs.Prelude.{ℕ, ◌+◌, ◌-◌, ◌*◌, ◌&&◌, nat_le, nat_lt, nat_eq, List, [], ◌∷◌, length, drop, Option, Some, None, if◌then◌else◌, codes}
use Rattle.std.specs.List.{starts_with}
use Rattle.std.specs.Option.{option_and_then}

-- the value of a hexadecimal digit: `0` to `9`, `a` to `f` or `A` to `F`
abbrev pub hex_digit : ℕ → Option ℕ
hex_digit b =
    if nat_le 48 b && nat_le b 57 then Some (b - 48) else
    (if nat_le 97 b && nat_le b 102 then Some (b - 97 + 10) else
    (if nat_le 65 b && nat_le b 70 then Some (b - 65 + 10) else None))

-- the value of a digit in a base of at most 16
abbrev pub digit_of : ℕ → ℕ → Option ℕ
digit_of base b = option_and_then (λ d. if nat_lt d base then Some d else None) (hex_digit b)

-- the value of digits that come after those of v
abbrev pub digits_after : ℕ → ℕ → List ℕ → Option ℕ
digits_after base v [] = Some v
digits_after base v (b ∷ bs) = option_and_then (λ d. digits_after base (base * v + d) bs) (digit_of base b)

-- the value of digits in a base, of which there is one at least, and so many at most
abbrev pub number_of : ℕ → ℕ → List ℕ → Option ℕ
number_of base most digits = if nat_le 1 (length digits) && nat_le (length digits) most then digits_after base 0 digits else None

-- `0x` and one to eight hexadecimal digits, or one to ten decimal digits
abbrev pub long_of : List ℕ → Option ℕ
long_of word = if starts_with nat_eq word (codes "0x") then number_of 16 8 (drop 2 word) else number_of 10 10 word

-- a number that is neither below the least nor above the greatest
abbrev pub within : ℕ → ℕ → ℕ → Option ℕ
within least most v = if nat_le least v && nat_le v most then Some v else None

-- the value of a word: such digits of a number below 2^32
abbrev pub value_of : List ℕ → Option ℕ
value_of word = option_and_then (within 0 4294967295) (long_of word)

-- a count: one to ten decimal digits of a number that is neither below the least nor above the greatest
abbrev pub count_of : ℕ → ℕ → List ℕ → Option ℕ
count_of least most word = option_and_then (within least most) (number_of 10 10 word)
