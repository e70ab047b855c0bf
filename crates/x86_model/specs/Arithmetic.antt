-- Results and flags of the operations on two words.
use Rattle.std.specs.Prelude.{ℕ, ◌+◌, ◌-◌, ◌*ℤ◌, ◌/◌, ◌%◌, ◌^◌, ◌==◌, Bool, false, not, if◌then◌else◌, bit_and, bit_or, bit_xor}
use Rattle.x86_inst.specs.declared.AluOp.{AluOp}
use Rattle.x86_inst.specs.declared.AluOp.TheVariants.{Add, Or, Adc, Sbb, And, Sub, Xor, Cmp}
use Rattle.dream_words.specs.declared.machine.Bit.TheVariants.{Zero, One}
use Rattle.dream_words.specs.declared.machine.Bit.{Bit}
use Rattle.dream_words.specs.declared.machine.Flags.{Flags}
use Rattle.dream_words.specs.Words.{low_part, sign_bit, signed_part, fits_signed, bit_of, carries, sum_overflows, borrows, difference_overflows, has_even_ones}

-- a truth as a flag
abbrev pub flag_if : Bool → Bit
flag_if b = if b then One else Zero

-- a difference, taken to so many bits
abbrev pub minus_of : ℕ → ℕ → ℕ → ℕ
minus_of bits x y = (low_part bits x + 2 ^ bits - low_part bits y) % 2 ^ bits

-- SF, ZF and PF by a result
abbrev pub by_result : ℕ → ℕ → Bit → Bit → Flags
by_result bits v c o = record {
  c = c;
  p = flag_if (has_even_ones v);
  z = flag_if (low_part bits v == 0);
  s = flag_if (sign_bit bits v);
  o = o;
}

-- a sum and its flags
abbrev pub sum_of : ℕ → ℕ → ℕ → Bool → ℕ
sum_of bits x y c = low_part bits (x + y + bit_of c)

abbrev pub sum_flags : ℕ → ℕ → ℕ → Bool → Flags
sum_flags bits x y c = by_result bits (sum_of bits x y c) (flag_if (carries bits x y c)) (flag_if (sum_overflows bits x y c))

-- a difference and its flags
abbrev pub difference_of : ℕ → ℕ → ℕ → Bool → ℕ
difference_of bits x y c = (low_part bits x + 2 ^ bits - (low_part bits y + bit_of c)) % 2 ^ bits

abbrev pub difference_flags : ℕ → ℕ → ℕ → Bool → Flags
difference_flags bits x y c = by_result bits (difference_of bits x y c) (flag_if (borrows bits x y c)) (flag_if (difference_overflows bits x y c))

-- the flags of And, Or, Xor and Test
abbrev pub logic_flags : ℕ → ℕ → Flags
logic_flags bits v = by_result bits v Zero Zero

-- the result of an operation, with the carry before it
abbrev pub alu_value : AluOp → ℕ → ℕ → ℕ → Bool → ℕ
alu_value Add bits x y c = sum_of bits x y false
alu_value Or bits x y c = bit_or x y
alu_value Adc bits x y c = sum_of bits x y c
alu_value Sbb bits x y c = difference_of bits x y c
alu_value And bits x y c = bit_and x y
alu_value Sub bits x y c = difference_of bits x y false
alu_value Xor bits x y c = bit_xor x y
alu_value Cmp bits x y c = difference_of bits x y false

abbrev pub alu_flags : AluOp → ℕ → ℕ → ℕ → Bool → Flags
alu_flags Add bits x y c = sum_flags bits x y false
alu_flags Or bits x y c = logic_flags bits (bit_or x y)
alu_flags Adc bits x y c = sum_flags bits x y c
alu_flags Sbb bits x y c = difference_flags bits x y c
alu_flags And bits x y c = logic_flags bits (bit_and x y)
alu_flags Sub bits x y c = difference_flags bits x y false
alu_flags Xor bits x y c = logic_flags bits (bit_xor x y)
alu_flags Cmp bits x y c = difference_flags bits x y false

-- the signed product doesn't fit the size
abbrev pub product_overflows : ℕ → ℕ → ℕ → Bool
product_overflows bits x y = not (fits_signed bits (signed_part bits x *ℤ signed_part bits y))

-- a word of copies of the top bit
abbrev pub sign_copies : ℕ → ℕ → ℕ
sign_copies bits v = if sign_bit bits v then 2 ^ bits - 1 else 0

-- a shift right with copies of the top bit
abbrev pub shifted_signed_at : ℕ → ℕ → ℕ → ℕ
shifted_signed_at bits x n = if sign_bit bits x then 2 ^ bits - 1 - (2 ^ bits - 1 - x) / 2 ^ n else x / 2 ^ n
