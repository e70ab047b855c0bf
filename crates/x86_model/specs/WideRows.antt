-- The rows of products, quotients, shifts, bits and strings.
use Rattle.std.specs.Prelude.{ℕ, ◌+◌, ◌-◌, ◌*◌, ◌/◌, ◌%◌, ◌^◌, ◌==◌, ◌&&◌, nat_lt, Bool, true, false, not, Option, Some, None, if◌then◌else◌, bit_and, bit_or, bit_xor}
use Rattle.x86_inst.specs.declared.ShiftOp.{ShiftOp}
use Rattle.x86_inst.specs.declared.ShiftOp.TheVariants.{Rol, Ror, Shl, Shr, Sar}
use Rattle.x86_inst.specs.declared.StrOp.{StrOp}
use Rattle.x86_inst.specs.declared.StrOp.TheVariants.{Movs, Cmps, Stos, Lods, Scas}
use Rattle.x86_inst.specs.declared.Rep.{Rep}
use Rattle.x86_inst.specs.declared.Rep.TheVariants as rep
use Rattle.x86_inst.specs.declared.BitOp.{BitOp}
use Rattle.x86_inst.specs.declared.BitOp.TheVariants.{Bt, Bts, Btr, Btc}
use Rattle.x86_inst.specs.declared.Count.{Count}
use Rattle.x86_inst.specs.declared.Count.TheVariants as n
use Rattle.x86_inst.specs.declared.Size.{Size}
use Rattle.x86_inst.specs.declared.Size.TheVariants.{B, H, W}
use Rattle.x86_inst.specs.declared.Operand.{Operand}
use Rattle.x86_inst.specs.declared.Operand.TheVariants as o
use Rattle.dream_words.specs.declared.machine.Regs.{Regs}
use Rattle.dream_words.specs.declared.machine.Bit.{Bit}
use Rattle.dream_words.specs.declared.machine.Bit.TheVariants.{Zero, One, Undefined}
use Rattle.dream_words.specs.declared.machine.Flags.{Flags}
use Rattle.dream_words.specs.Words.{low_part, sign_bit, high_product, high_signed_product, quotient_of, signed_quotient_of, lowest_one, highest_one}
use Rattle.dream_words.specs.Signed.{differ}
use Rattle.dream_words.specs.Memory.{bytes_of}
use Rattle.dream_words.specs.Registers.{reg_of, with_reg}
use Rattle.x86_model.specs.declared.effect.Step.{Step}
use Rattle.x86_model.specs.declared.effect.Effect.{Effect}
use Rattle.x86_model.specs.declared.effect.Go.{Go}
use Rattle.x86_model.specs.declared.effect.Go.TheVariants as go
use Rattle.x86_model.specs.Operands.{bits_of, width_of, part_of, with_part, value_of, count_of}
use Rattle.x86_model.specs.Arithmetic.{flag_if, minus_of, by_result, difference_flags, product_overflows, shifted_signed_at}
use Rattle.x86_model.specs.Effects.{done, goes, stray, stored, put}

-- ---- products and quotients

abbrev pub undefined_result : Bit → Bit → Flags
undefined_result c o = record { c = c; p = Undefined; z = Undefined; s = Undefined; o = o }

-- a pair of words in AX, DX:AX or EDX:EAX
abbrev pub with_pair : Size → Regs → ℕ → ℕ → Regs
with_pair B r hi lo = with_part B (with_part B r 0 lo) 4 hi
with_pair H r hi lo = with_part H (with_part H r 0 lo) 2 hi
with_pair W r hi lo = with_part W (with_part W r 0 lo) 2 hi

abbrev pub high_of : Size → Regs → ℕ
high_of B r = part_of B r 4
high_of H r = part_of H r 2
high_of W r = part_of W r 2

abbrev pub mul_row : Size → Operand → Step → Effect
mul_row size s a =
    let bits = bits_of size in let x = part_of size a.regs 0 in let y = value_of size s a in
    let hi = high_product bits x y in let over = flag_if (not (hi == 0)) in
    record (done a (undefined_result over over)) { regs = with_pair size a.regs hi (x * y % 2 ^ bits) }

abbrev pub divided : Option (ℕ × ℕ) → Size → Step → Effect
divided None size a = goes (go.Fault 0) a
divided (Some (q, r)) size a = record (done a (undefined_result Undefined Undefined)) { regs = with_pair size a.regs r q }

abbrev pub div_row : Size → Operand → Step → Effect
div_row size s a = divided (quotient_of (bits_of size) (high_of size a.regs) (part_of size a.regs 0) (value_of size s a)) size a

abbrev pub idiv_row : Size → Operand → Step → Effect
idiv_row size s a = divided (signed_quotient_of (bits_of size) (high_of size a.regs) (part_of size a.regs 0) (value_of size s a)) size a

abbrev pub product_flags : ℕ → ℕ → ℕ → Flags
product_flags bits x y = let over = flag_if (product_overflows bits x y) in undefined_result over over

abbrev pub imul_wide_row : Size → Operand → Step → Effect
imul_wide_row size s a =
    let bits = bits_of size in let x = part_of size a.regs 0 in let y = value_of size s a in
    record (done a (product_flags bits x y)) { regs = with_pair size a.regs (high_signed_product bits x y) (x * y % 2 ^ bits) }

-- a signed product whose low part goes to a register
abbrev pub times_row : Size → ℕ → ℕ → ℕ → Step → Effect
times_row size d x y a = put size (o.Reg d) (x * y % 2 ^ bits_of size) a (done a (product_flags (bits_of size) x y))

abbrev pub imul2_row : Size → ℕ → Operand → Step → Effect
imul2_row size d s a = times_row size d (part_of size a.regs d) (value_of size s a) a

abbrev pub imul3_row : Size → ℕ → Operand → ℕ → Step → Effect
imul3_row size d s k a = times_row size d (value_of size s a) (low_part (bits_of size) k) a

-- ---- shifts

-- a rotation to the left, by at most the size
abbrev pub rotate_of : ℕ → ℕ → ℕ → ℕ
rotate_of bits x k = (x * 2 ^ k + x / 2 ^ (bits - k)) % 2 ^ bits

abbrev pub shift_value : ShiftOp → ℕ → ℕ → ℕ → ℕ
shift_value Shl bits x n = x * 2 ^ n % 2 ^ bits
shift_value Shr bits x n = x / 2 ^ n
shift_value Sar bits x n = shifted_signed_at bits x n
shift_value Rol bits x n = rotate_of bits x (n % bits)
shift_value Ror bits x n = rotate_of bits x (bits - n % bits)

-- a flag that is defined only where the test holds
abbrev pub where_true : Bool → Bool → Bit
where_true b v = if b then flag_if v else Undefined

-- the flags of a count that isn't 0
abbrev pub shift_flags : ShiftOp → ℕ → ℕ → ℕ → Flags → Flags
shift_flags Shl bits x n f = let v = shift_value Shl bits x n in let c = x * 2 ^ n / 2 ^ bits % 2 == 1 in
    by_result bits v (where_true (nat_lt n bits) c) (where_true (n == 1) (differ (sign_bit bits v) c))
shift_flags Shr bits x n f =
    by_result bits (shift_value Shr bits x n) (where_true (nat_lt n bits) (x / 2 ^ (n - 1) % 2 == 1)) (where_true (n == 1) (sign_bit bits x))
shift_flags Sar bits x n f =
    by_result bits (shift_value Sar bits x n) (flag_if (shifted_signed_at bits x (n - 1) % 2 == 1)) (where_true (n == 1) false)
shift_flags Rol bits x n f = let v = shift_value Rol bits x n in
    record f { c = flag_if (v % 2 == 1); o = where_true (n == 1) (differ (sign_bit bits v) (v % 2 == 1)) }
shift_flags Ror bits x n f = let v = shift_value Ror bits x n in
    record f { c = flag_if (sign_bit bits v); o = where_true (n == 1) (differ (sign_bit bits v) (sign_bit (bits - 1) v)) }

-- a count of 0 changes nothing, but by CL memory is stored
abbrev pub shift_none : Count → Size → Operand → ℕ → Step → Effect
shift_none n.Cl size d x a = put size d x a (done a a.flags)
shift_none _ size d x a = done a a.flags

abbrev pub shift_row : ShiftOp → Size → Operand → Count → Step → Effect
shift_row op size d count a =
    let bits = bits_of size in let x = value_of size d a in let n = count_of count a in
    if n == 0 then shift_none count size d x a
    else put size d (shift_value op bits x n) a (done a (shift_flags op bits x n a.flags))

-- a word shifted by 1 to 31 places, and filled with bits of another
abbrev pub double_value : Bool → ℕ → ℕ → ℕ → ℕ
double_value true x y n = (x * 2 ^ n + y / 2 ^ (32 - n)) % 2 ^ 32
double_value false x y n = (x / 2 ^ n + y * 2 ^ (32 - n)) % 2 ^ 32

-- the last bit shifted out
abbrev pub double_out : Bool → ℕ → ℕ → Bool
double_out true x n = x / 2 ^ (32 - n) % 2 == 1
double_out false x n = x / 2 ^ (n - 1) % 2 == 1

abbrev pub double_flags : Bool → ℕ → ℕ → ℕ → Flags
double_flags left x y n = let v = double_value left x y n in
    by_result 32 v (flag_if (double_out left x n)) (where_true (n == 1) (differ (sign_bit 32 v) (sign_bit 32 x)))

abbrev pub double_row : Bool → Operand → ℕ → Count → Step → Effect
double_row left d g count a =
    let x = value_of W d a in let y = reg_of a.regs g in let n = count_of count a in
    if n == 0 then shift_none count W d x a
    else put W d (double_value left x y n) a (done a (double_flags left x y n))

-- ---- bits

-- a word with its n-th bit kept, set, cleared or flipped
abbrev pub bit_value : BitOp → ℕ → ℕ → ℕ → ℕ
bit_value Bt bits x n = x
bit_value Bts bits x n = bit_or x (2 ^ n)
bit_value Btr bits x n = bit_and x (2 ^ bits - 1 - 2 ^ n)
bit_value Btc bits x n = bit_xor x (2 ^ n)

-- CF is the old bit
abbrev pub bit_flags : Bool → Flags → Flags
bit_flags b f = record { c = flag_if b; p = Undefined; z = f.z; s = Undefined; o = Undefined }

-- Bt writes no operand
abbrev pub bit_written : BitOp → Size → Operand → ℕ → Step → Effect → Effect
bit_written Bt size d v a e = e
bit_written _ size d v a e = put size d v a e

-- BT, BTS, BTR, BTC: the bit at the index modulo the size
abbrev pub bit_row : BitOp → Size → Operand → Operand → Step → Effect
bit_row op size d s a =
    let bits = bits_of size in let x = value_of size d a in let n = value_of size s a % bits in
    bit_written op size d (bit_value op bits x n) a (done a (bit_flags (x / 2 ^ n % 2 == 1) a.flags))

-- the place of the lowest or the highest set bit
abbrev pub place_of : Bool → ℕ → ℕ
place_of true x = lowest_one 31 x
place_of false x = highest_one 32 x

-- ZF is 0 but for TZCNT's spelling
abbrev pub scan_flags : Bool → Flags
scan_flags tz = record (undefined_result Undefined Undefined) { z = if tz then Undefined else Zero }

abbrev pub scan_row : Bool → Size → ℕ → Operand → Bool → Step → Effect
scan_row up size d s tz a = let x = value_of size s a in
    if x == 0 then stray a
    else put size (o.Reg d) (place_of up x) a (done a (scan_flags tz))

-- ---- strings

-- ESI and EDI after a round
abbrev pub steps_source : StrOp → Bool
steps_source Movs = true
steps_source Cmps = true
steps_source Lods = true
steps_source _ = false

abbrev pub steps_target : StrOp → Bool
steps_target Lods = false
steps_target _ = true

abbrev pub stepped : StrOp → Size → Regs → Regs
stepped op size r = record r {
  esi = if steps_source op then (r.esi + bytes_of (width_of size)) % 2 ^ 32 else r.esi;
  edi = if steps_target op then (r.edi + bytes_of (width_of size)) % 2 ^ 32 else r.edi;
}

-- one round, before the registers step
abbrev pub round_of : StrOp → Size → Step → Effect
round_of Movs size a = record (done a a.flags) { store = stored a.regs.edi size a.first }
round_of Stos size a = record (done a a.flags) { store = stored a.regs.edi size a.regs.eax }
round_of Lods size a = record (done a a.flags) { regs = with_part size a.regs 0 a.first }
round_of Cmps size a = done a (difference_flags (bits_of size) a.first a.second false)
round_of Scas size a = done a (difference_flags (bits_of size) (part_of size a.regs 0) a.first false)

abbrev pub whole_round : StrOp → Size → Step → Effect
whole_round op size a = let e = round_of op size a in record e { regs = stepped op size e.regs }

-- whether the instruction stands again after a round
abbrev pub again : Rep → Bit → Go
again rep.No z = go.Next
again rep.Rep z = go.Again
again rep.Repe One = go.Again
again rep.Repe _ = go.Next
again rep.Repne One = go.Next
again rep.Repne _ = go.Again

abbrev pub repeated : Rep → Effect → Effect
repeated rep.No e = e
repeated r e = record e { regs = with_reg e.regs 1 (minus_of 32 e.regs.ecx 1); go = again r e.flags.z }

abbrev pub repeats : Rep → Bool
repeats rep.No = false
repeats _ = true

abbrev pub str_row : StrOp → Size → Rep → Step → Effect
str_row op size r a = if repeats r && a.regs.ecx == 0 then done a a.flags else repeated r (whole_round op size a)
