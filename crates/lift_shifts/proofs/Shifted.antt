-- What shifts and rotations of words give.
use Rattle.std.proofs.Common.{◌≡◌, ℕ, suc, ◌+◌, ◌-◌, ◌*◌, ◌/◌, ◌%◌, ◌^◌, ◌<◌, ◌≤◌, min, Bool, true, false, refl, sym, ap, ◌∙◌, arith}
use Rattle.std.specs.Prelude.{if◌then◌else◌}
use Rattle.std.proofs.lemmas.Bool.Decides.{nat_tests}
use Rattle.std.proofs.lemmas.Nat.{mod_below, pow_pos}
use Rattle.std.proofs.Math.Nat.{mod-eq_of_lt, div-le_self, pow-suc, div-div-eq-div-mul, mul_assoc, mul-one, add-mul-mod_self_right, div-eq_of_lt}
use Rattle.dream_words.specs.Words.{low_part, sign_bit, shifted_signed, sign_extended}
use Rattle.x86_inst.specs.declared.ShiftOp.{ShiftOp}
use Rattle.x86_inst.specs.declared.ShiftOp.TheVariants.{Rol, Ror, Shl, Shr, Sar}
use Rattle.x86_inst.specs.declared.Size.{Size}
use Rattle.x86_inst.specs.declared.Size.TheVariants.{B, H, W}
use Rattle.x86_model.specs.Operands.{bits_of}
use Rattle.x86_model.specs.Arithmetic.{shifted_signed_at}
use Rattle.x86_model.specs.WideRows.{rotate_of, shift_value, double_value}
use Rattle.lift_blocks.proofs.MoveWords.{extended_by, extended_is}

-- ---- low parts

pub low_low : (size : Size) (y : ℕ) → low_part (bits_of size) (low_part 32 y) ≡ low_part (bits_of size) y
low_low B y = omega arith
low_low H y = omega arith
low_low W y = omega arith

sum_low : (size : Size) (a b : ℕ) → low_part (bits_of size) (low_part 32 (low_part 32 a + b)) ≡ low_part (bits_of size) (a + b)
sum_low B a b = omega arith
sum_low H a b = omega arith
sum_low W a b = omega arith

-- ---- the arithmetic shift

rest_low : (size : Size) (q : ℕ) → q < 2 ^ bits_of size → low_part (bits_of size) (2 ^ 32 - 1 - q) ≡ 2 ^ bits_of size - 1 - q
rest_low B q h = omega arith
rest_low H q h = omega arith
rest_low W q h = omega arith

high_sign : (size : Size) (x : ℕ) → x < 2 ^ bits_of size → sign_bit (bits_of size) x ≡ true → sign_bit 32 (x + (2 ^ 32 - 2 ^ bits_of size)) ≡ true
high_sign B x h e = grind (arith, nat_tests)
high_sign H x h e = grind (arith, nat_tests)
high_sign W x h e = grind (arith, nat_tests)

low_sign : (size : Size) (x : ℕ) → x < 2 ^ bits_of size → sign_bit (bits_of size) x ≡ false → sign_bit 32 x ≡ false
low_sign B x h e = grind (arith, nat_tests)
low_sign H x h e = grind (arith, nat_tests)
low_sign W x h e = grind (arith, nat_tests)

from_top : (size : Size) (x : ℕ) → x < 2 ^ bits_of size → 2 ^ 32 - 1 - (x + (2 ^ 32 - 2 ^ bits_of size)) ≡ 2 ^ bits_of size - 1 - x
from_top B x h = omega arith
from_top H x h = omega arith
from_top W x h = omega arith

below_top : (m x q : ℕ) → x < m → q ≤ m - 1 - x → q < m
below_top m x q h k = omega arith

still_below : (m x q : ℕ) → x < m → q ≤ x → q < m
still_below m x q h k = omega arith

-- by the sign
abbrev signed_by_sign : Bool → ℕ → ℕ → ℕ → ℕ
signed_by_sign s bits x c = if s then 2 ^ bits - 1 - (2 ^ bits - 1 - x) / 2 ^ c else x / 2 ^ c

sar_by : (size : Size) (s : Bool) (x c : ℕ) → x < 2 ^ bits_of size → sign_bit (bits_of size) x ≡ s
    → low_part (bits_of size) (shifted_signed (extended_by s (2 ^ bits_of size) x) c) ≡ signed_by_sign s (bits_of size) x c
sar_by size true x c h e =
    let m : ℕ = 2 ^ bits_of size in
    let q : ℕ = (m - 1 - x) / 2 ^ c in
    ap (λ t. low_part (bits_of size) (if t then 2 ^ 32 - 1 - (2 ^ 32 - 1 - (x + (2 ^ 32 - m))) / 2 ^ c else (x + (2 ^ 32 - m)) / 2 ^ c)) (high_sign size x h e)
    ∙ ap (λ k. low_part (bits_of size) (2 ^ 32 - 1 - k / 2 ^ c)) (from_top size x h)
    ∙ rest_low size q (below_top m x q h (div-le_self (m - 1 - x) (2 ^ c)))
sar_by size false x c h e =
    ap (λ t. low_part (bits_of size) (if t then 2 ^ 32 - 1 - (2 ^ 32 - 1 - x) / 2 ^ c else x / 2 ^ c)) (low_sign size x h e)
    ∙ mod-eq_of_lt (still_below (2 ^ bits_of size) x (x / 2 ^ c) h (div-le_self x (2 ^ c)))

capped : (c : ℕ) → c < 32 → min c 31 ≡ c
capped c h = omega arith

pub sar_is : (size : Size) (x c : ℕ) → x < 2 ^ bits_of size → c < 32
    → low_part (bits_of size) (shifted_signed (sign_extended (bits_of size) x) (min c 31)) ≡ shifted_signed_at (bits_of size) x c
sar_is size x c h k =
    ap (λ n. low_part (bits_of size) (shifted_signed (sign_extended (bits_of size) x) n)) (capped c k)
    ∙ ap (λ y. low_part (bits_of size) (shifted_signed y c)) (extended_is size x)
    ∙ ap (λ y. low_part (bits_of size) (shifted_signed (extended_by (sign_bit (bits_of size) x) (2 ^ bits_of size) y) c)) (mod-eq_of_lt h)
    ∙ sar_by size (sign_bit (bits_of size) x) x c h refl

-- ---- rotations

-- a shift to the right and then by 1
once_more : (x k n : ℕ) → suc k ≡ n → x / 2 ^ k / 2 ≡ x / 2 ^ n
once_more x k n e = div-div-eq-div-mul x (2 ^ k) 2 ∙ ap (λ d. x / d) (sym (pow-suc 2 k)) ∙ ap (λ m. x / 2 ^ m) e

doubled : (p : ℕ) → low_part 32 (low_part 32 p * 2) ≡ low_part 32 (p * 2)
doubled p = omega arith

-- a shift to the left and then by 1
once_more_left : (x k n : ℕ) → suc k ≡ n → low_part 32 (low_part 32 (x * 2 ^ k) * 2) ≡ low_part 32 (x * 2 ^ n)
once_more_left x k n e =
    doubled (x * 2 ^ k)
    ∙ ap (low_part 32) (mul_assoc x (2 ^ k) 2)
    ∙ ap (λ q. low_part 32 (x * q)) (sym (pow-suc 2 k))
    ∙ ap (λ m. low_part 32 (x * 2 ^ m)) e

next_back : (bits k : ℕ) → k < bits → suc (bits - 1 - k) ≡ bits - k
next_back bits k h = omega arith

twice_less : (bits k : ℕ) → k < bits → k ≡ bits - (bits - k)
twice_less bits k h = omega arith

pub rol_is : (size : Size) (x k : ℕ) → k < bits_of size
    → low_part (bits_of size) (low_part 32 (low_part 32 (x * 2 ^ k) + x / 2 ^ (bits_of size - 1 - k) / 2)) ≡ rotate_of (bits_of size) x k
rol_is size x k h =
    sum_low size (x * 2 ^ k) (x / 2 ^ (bits_of size - 1 - k) / 2)
    ∙ ap (λ q. (x * 2 ^ k + q) % 2 ^ bits_of size) (once_more x (bits_of size - 1 - k) (bits_of size - k) (next_back (bits_of size) k h))

pub ror_is : (size : Size) (x k : ℕ) → k < bits_of size
    → low_part (bits_of size) (low_part 32 (low_part 32 (low_part 32 (x * 2 ^ (bits_of size - 1 - k)) * 2) + x / 2 ^ k)) ≡ rotate_of (bits_of size) x (bits_of size - k)
ror_is size x k h =
    ap (λ q. low_part (bits_of size) (low_part 32 (q + x / 2 ^ k))) (once_more_left x (bits_of size - 1 - k) (bits_of size - k) (next_back (bits_of size) k h))
    ∙ sum_low size (x * 2 ^ (bits_of size - k)) (x / 2 ^ k)
    ∙ ap (λ q. (x * 2 ^ (bits_of size - k) + x / 2 ^ q) % 2 ^ bits_of size) (twice_less (bits_of size) k h)

-- ---- double shifts

word_sum : (a b : ℕ) → low_part 32 (low_part 32 a + b) ≡ low_part 32 (a + b)
word_sum a b = omega arith

pub double_left_is : (x y c : ℕ) → c < 32 → low_part 32 (low_part 32 (x * 2 ^ c) + y / 2 ^ (31 - c) / 2) ≡ double_value true x y c
double_left_is x y c h =
    word_sum (x * 2 ^ c) (y / 2 ^ (31 - c) / 2) ∙ ap (λ q. (x * 2 ^ c + q) % 2 ^ 32) (once_more y (31 - c) (32 - c) (next_back 32 c h))

swapped_sum : (a b : ℕ) → low_part 32 (low_part 32 a + b) ≡ low_part 32 (b + a)
swapped_sum a b = omega arith

pub double_right_is : (x y c : ℕ) → c < 32 → low_part 32 (low_part 32 (low_part 32 (y * 2 ^ (31 - c)) * 2) + x / 2 ^ c) ≡ double_value false x y c
double_right_is x y c h =
    ap (λ q. low_part 32 (q + x / 2 ^ c)) (once_more_left y (31 - c) (32 - c) (next_back 32 c h)) ∙ swapped_sum (y * 2 ^ (32 - c)) (x / 2 ^ c)

-- ---- results fit, and by 0 are the operand

sar_fits : (s : Bool) (bits x c : ℕ) → x < 2 ^ bits → signed_by_sign s bits x c < 2 ^ bits
sar_fits true bits x c h = let p : 0 < 2 ^ bits = pow_pos bits in omega arith
sar_fits false bits x c h = still_below (2 ^ bits) x (x / 2 ^ c) h (div-le_self x (2 ^ c))

pub signed_fits : (x c : ℕ) → x < 2 ^ 32 → shifted_signed x c < 2 ^ 32
signed_fits x c h = sar_fits (sign_bit 32 x) 32 x c h

pub shift_fits : (f : ShiftOp) (bits x c : ℕ) → x < 2 ^ bits → shift_value f bits x c < 2 ^ bits
shift_fits Shl bits x c h = mod_below (x * 2 ^ c) (2 ^ bits) (pow_pos bits)
shift_fits Shr bits x c h = still_below (2 ^ bits) x (x / 2 ^ c) h (div-le_self x (2 ^ c))
shift_fits Sar bits x c h = sar_fits (sign_bit bits x) bits x c h
shift_fits Rol bits x c h = mod_below (x * 2 ^ (c % bits) + x / 2 ^ (bits - c % bits)) (2 ^ bits) (pow_pos bits)
shift_fits Ror bits x c h = mod_below (x * 2 ^ (bits - c % bits) + x / 2 ^ (bits - (bits - c % bits))) (2 ^ bits) (pow_pos bits)

pub double_fits : (left : Bool) (x y c : ℕ) → double_value left x y c < 2 ^ 32
double_fits true x y c = mod_below (x * 2 ^ c + y / 2 ^ (32 - c)) (2 ^ 32) (pow_pos 32)
double_fits false x y c = mod_below (x / 2 ^ c + y * 2 ^ (32 - c)) (2 ^ 32) (pow_pos 32)

sar_none : (s : Bool) (bits x : ℕ) → x < 2 ^ bits → signed_by_sign s bits x 0 ≡ x
sar_none true bits x h = omega arith
sar_none false bits x h = omega arith

over_all : (m x : ℕ) → x < m → (x * m + x) % m ≡ x
over_all m x h = ap (λ k. k % m) (turned (x * m) x) ∙ add-mul-mod_self_right x x m ∙ mod-eq_of_lt h
  where
    turned : (a b : ℕ) → a + b ≡ b + a
    turned a b = omega arith

none_of : (size : Size) → 0 % bits_of size ≡ 0
none_of B = refl
none_of H = refl
none_of W = refl

less_none : (n : ℕ) → n - 0 ≡ n
less_none n = omega arith

less_all : (n : ℕ) → n - n ≡ 0
less_all n = omega arith

turned_none : (bits x : ℕ) → x < 2 ^ bits → rotate_of bits x 0 ≡ x
turned_none bits x h =
    ap (λ k. (x * 1 + x / 2 ^ k) % 2 ^ bits) (less_none bits)
    ∙ ap (λ k. (x * 1 + k) % 2 ^ bits) (div-eq_of_lt h)
    ∙ ap (λ k. k % 2 ^ bits) (plain x)
    ∙ mod-eq_of_lt h
  where
    plain : (x : ℕ) → x * 1 + 0 ≡ x
    plain x = omega arith

turned_all : (bits x : ℕ) → x < 2 ^ bits → rotate_of bits x bits ≡ x
turned_all bits x h =
    ap (λ k. (x * 2 ^ bits + x / 2 ^ k) % 2 ^ bits) (less_all bits)
    ∙ ap (λ k. (x * 2 ^ bits + k) % 2 ^ bits) (whole x)
    ∙ over_all (2 ^ bits) x h
  where
    whole : (x : ℕ) → x / 2 ^ 0 ≡ x
    whole x = omega arith

pub shift_none_is : (f : ShiftOp) (size : Size) (x : ℕ) → x < 2 ^ bits_of size → shift_value f (bits_of size) x 0 ≡ x
shift_none_is Shl size x h = ap (λ k. k % 2 ^ bits_of size) (mul-one x) ∙ mod-eq_of_lt h
shift_none_is Shr size x h = omega arith
shift_none_is Sar size x h = sar_none (sign_bit (bits_of size) x) (bits_of size) x h
shift_none_is Rol size x h = ap (rotate_of (bits_of size) x) (none_of size) ∙ turned_none (bits_of size) x h
shift_none_is Ror size x h = ap (λ k. rotate_of (bits_of size) x (bits_of size - k)) (none_of size) ∙ ap (rotate_of (bits_of size) x) (less_none (bits_of size)) ∙ turned_all (bits_of size) x h

pub double_none_is : (left : Bool) (x y : ℕ) → x < 2 ^ 32 → y < 2 ^ 32 → double_value left x y 0 ≡ x
double_none_is true x y h k = omega arith
double_none_is false x y h k = omega arith
