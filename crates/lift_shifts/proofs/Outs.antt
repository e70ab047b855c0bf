-- The bits that shifts and rotations shift out, as numbers.
use Rattle.std.proofs.Common.{◌≡◌, ℕ, ◌+◌, ◌-◌, ◌*◌, ◌/◌, ◌%◌, ◌^◌, ◌<◌, ◌≤◌, min, nat_eq, Bool, true, false, bit_and, refl, sym, ap, ◌∙◌, arith}
use Rattle.std.specs.Prelude.{bit_xor}
use Rattle.std.proofs.lemmas.Bool.Decides.{nat_tests}
use Rattle.std.proofs.lemmas.Nat.{and_mask, pow_pos, pow-add}
use Rattle.std.proofs.Math.Nat.{mul-div-mul_right}
use Rattle.dream_words.specs.Words.{bit_of, low_part, sign_bit, shifted_signed, sign_extended}
use Rattle.dream_words.specs.Signed.{differ}
use Rattle.x86_inst.specs.declared.Size.{Size}
use Rattle.x86_inst.specs.declared.Size.TheVariants.{B, H, W}
use Rattle.x86_model.specs.Operands.{bits_of}
use Rattle.x86_model.specs.Arithmetic.{shifted_signed_at}
use Rattle.lift_shifts.proofs.Shifted.{sar_is}

-- ---- bits

pub bit_fits : (b : Bool) → bit_of b < 2 ^ 32
bit_fits true = omega arith
bit_fits false = omega arith

-- the lowest bit
pub lowest_is : (y : ℕ) → bit_and y 1 ≡ bit_of (nat_eq (y % 2) 1)
lowest_is y = and_mask y 1 ∙ parity y
  where
    parity : (y : ℕ) → y % 2 ≡ bit_of (nat_eq (y % 2) 1)
    parity y = grind (arith, nat_tests)

-- the top one
pub top_is : (size : Size) (x : ℕ) → x < 2 ^ bits_of size → x / 2 ^ (bits_of size - 1) ≡ bit_of (sign_bit (bits_of size) x)
top_is B x h = grind (arith, nat_tests)
top_is H x h = grind (arith, nat_tests)
top_is W x h = grind (arith, nat_tests)

-- the one below
pub second_is : (size : Size) (x : ℕ) → nat_eq (x / 2 ^ (bits_of size - 2) % 2) 1 ≡ sign_bit (bits_of size - 1) x
second_is B x = grind (arith, nat_tests)
second_is H x = grind (arith, nat_tests)
second_is W x = grind (arith, nat_tests)

pub xor_of_bits : (a b : Bool) → bit_xor (bit_of a) (bit_of b) ≡ bit_of (differ a b)
xor_of_bits true true = refl
xor_of_bits true false = refl
xor_of_bits false true = refl
xor_of_bits false false = refl

-- ---- carries

split_pow : (x bits c : ℕ) → c ≤ bits → x * 2 ^ c / 2 ^ bits ≡ x / 2 ^ (bits - c)
split_pow x bits c h =
    let e : bits - c + c ≡ bits = omega arith in
    ap (λ k. x * 2 ^ c / 2 ^ k) (sym e) ∙ ap (λ d. x * 2 ^ c / d) (pow-add 2 (bits - c) c) ∙ mul-div-mul_right x (2 ^ (bits - c)) (pow_pos c)

-- out of a shift to the left
pub left_out : (x bits c : ℕ) → c ≤ bits → nat_eq (x / 2 ^ (bits - c) % 2) 1 ≡ nat_eq (x * 2 ^ c / 2 ^ bits % 2) 1
left_out x bits c h = ap (λ y. nat_eq (y % 2) 1) (sym (split_pow x bits c h))

-- the lowest bit is one of the low part
low_parity : (size : Size) (y : ℕ) → low_part (bits_of size) y % 2 ≡ y % 2
low_parity B y = omega arith
low_parity H y = omega arith
low_parity W y = omega arith

-- out of an arithmetic shift to the right
pub signed_out : (size : Size) (x c : ℕ) → x < 2 ^ bits_of size → c < 32
    → bit_and (shifted_signed (sign_extended (bits_of size) x) (min c 31)) 1 ≡ bit_of (nat_eq (shifted_signed_at (bits_of size) x c % 2) 1)
signed_out size x c h k =
    let y : ℕ = shifted_signed (sign_extended (bits_of size) x) (min c 31) in
    lowest_is y ∙ ap (λ n. bit_of (nat_eq n 1)) (sym (low_parity size y)) ∙ ap (λ n. bit_of (nat_eq (n % 2) 1)) (sar_is size x c h k)

-- out of a shift to the left by 1
pub out_by_one : (size : Size) (x : ℕ) → x < 2 ^ bits_of size → nat_eq (x * 2 ^ 1 / 2 ^ bits_of size % 2) 1 ≡ sign_bit (bits_of size) x
out_by_one B x h = grind (arith, nat_tests)
out_by_one H x h = grind (arith, nat_tests)
out_by_one W x h = grind (arith, nat_tests)
