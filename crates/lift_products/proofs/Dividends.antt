-- The dividends as words, and what a quotient of 32 bits tells at each size.
use Rattle.std.proofs.Common.{◌≡◌, ℕ, ℤ, pos, negsuc, ◌-ℤ◌, nat_eq, nat_le, ◌||◌, lit<, if◌then◌else◌, ◌+◌, ◌*◌, ◌/◌, ◌%◌, ◌^◌, ◌<◌, Bool, true, false, bit_or, Option, Some, None, refl, sym, ap, ◌∙◌, subst, arith}
use Rattle.std.proofs.Math.Nat.{mod-eq_of_lt}
use Rattle.std.proofs.lemmas.Bool.Decides.{nat_tests}
use Rattle.std.proofs.lemmas.Nat.{mod_below, or_shifted, pow_pos}
use Rattle.dream_words.specs.declared.machine.Name.TheVariants as name
use Rattle.dream_words.specs.declared.machine.Regs.{Regs}
use Rattle.dream_words.specs.Words.{low_part, quotient_of, shifted_signed, sign_bit, sign_extended, signed_part, signed_quotient_of, wide_number, word_of as word_taken}
use Rattle.run_parts.specs.World.{Names, regs_in}
use Rattle.x86_inst.specs.declared.Size.{Size}
use Rattle.x86_inst.specs.declared.Size.TheVariants.{B, H, W}
use Rattle.x86_model.specs.Operands.{bits_of, part_of}
use Rattle.x86_model.specs.WideRows.{high_of}
use Rattle.c_syntax.specs.declared.syntax.CBin.TheVariants as op
use Rattle.c_syntax.specs.declared.syntax.CExpr.{CExpr}
use Rattle.c_syntax.specs.declared.syntax.CFn2.TheVariants.{Sar}
use Rattle.c_syntax.specs.Value.{word_of}
use Rattle.c_syntax.specs.Words.{quotient, remainder}
use Rattle.c_words.specs.Built.{bin, num}
use Rattle.lift_parts.specs.Parts.{low_word, reg}
use Rattle.lift_parts.specs.Shown.{AreNames}
use Rattle.lift_parts.proofs.Values.{low_is}
use Rattle.lift_blocks.proofs.MoveWords.{bin_value, extended_below, extended_by, extended_is, extended_value, fn2_value, name_value, num_value}
use Rattle.lift_products.specs.Quotients.{high_dividend, high_extension, low_dividend}
use Rattle.lift_products.proofs.DivisionNumbers.{Tells, bad_value, byte_signed_tells, byte_tells, half_signed_tells, half_tells, whole_tells}
use Rattle.lift_products.proofs.Factors.{factor_of}
use Rattle.lift_products.proofs.Wholes.{extended_signed}

-- ---- numbers

-- the low word of the dividend
abbrev pub low_number : Bool → Size → Regs → ℕ
low_number true B r = sign_extended 16 r.eax
low_number false B r = wide_number 8 (high_of B r) (part_of B r 0)
low_number signed H r = wide_number 16 (high_of H r) (part_of H r 0)
low_number signed W r = r.eax

-- what extends it
abbrev pub extension : Bool → ℕ → ℕ
extension true l = shifted_signed l 31
extension false l = 0

-- the high word
abbrev pub high_number : Bool → Size → Regs → ℕ
high_number signed B r = extension signed (low_number signed B r)
high_number signed H r = extension signed (low_number signed H r)
high_number signed W r = r.edx

-- quotient and remainder of two words by a third
abbrev pub wide_quotient : Bool → ℕ → ℕ → ℕ → ℕ → Option (ℕ × ℕ)
wide_quotient true bits hi lo d = signed_quotient_of bits hi lo d
wide_quotient false bits hi lo d = quotient_of bits hi lo d

-- that of the instruction, and that of the words
abbrev pub sized_quotient : Bool → Size → Regs → ℕ → Option (ℕ × ℕ)
sized_quotient signed size r d = wide_quotient signed (bits_of size) (high_of size r) (part_of size r 0) d

abbrev pub word_quotient : Bool → Size → Regs → ℕ → Option (ℕ × ℕ)
word_quotient signed size r d = wide_quotient signed 32 (high_number signed size r) (low_number signed size r) (factor_of signed size d)

-- ---- words

ax_is : (x : ℕ) → low_part 16 x ≡ wide_number 8 (x / 2 ^ 8 % 2 ^ 8) (x % 2 ^ 8)
ax_is x = omega arith

dx_high : (x : ℕ) → low_part 32 (x * 2 ^ 16) ≡ x % 2 ^ 16 * 2 ^ 16
dx_high x = omega arith

dx_ax_again : (x y : ℕ) → x % 2 ^ 16 * 2 ^ 16 + low_part 16 y ≡ wide_number 16 (x % 2 ^ 16) (y % 2 ^ 16)
dx_ax_again x y = omega arith

dx_ax_is : (x y : ℕ) → bit_or (low_part 32 (x * 2 ^ 16)) (low_part 16 y) ≡ wide_number 16 (x % 2 ^ 16) (y % 2 ^ 16)
dx_ax_is x y =
    ap (λ k. bit_or k (low_part 16 y)) (dx_high x) ∙ or_shifted (x % 2 ^ 16) 16 (low_part 16 y) (mod_below y (2 ^ 16) (pow_pos 16)) ∙ dx_ax_again x y

module _ (v : Names) (h : AreNames v) where
  -- AX
  ax_value : word_of (low_word H (reg 0)) v ≡ Some (low_part 16 (v (name.Reg 0)))
  ax_value = low_is v H (reg 0) (v (name.Reg 0)) (h.words (name.Reg 0)) (name_value v (name.Reg 0))

  -- DX:AX
  dx_ax_value : (signed : Bool) → word_of (low_dividend signed H) v ≡ Some (low_number signed H (regs_in v))
  dx_ax_value signed =
      bin_value v op.Or (bin op.Shl (reg 2) (num 16)) (low_word H (reg 0)) (low_part 32 (v (name.Reg 2) * 2 ^ 16)) (low_part 16 (v (name.Reg 0)))
      (bin_value v op.Shl (reg 2) (num 16) (v (name.Reg 2)) 16 (name_value v (name.Reg 2)) (num_value v 16)) ax_value
      ∙ ap Some (dx_ax_is (v (name.Reg 2)) (v (name.Reg 0)))

  pub low_dividend_value : (signed : Bool) (size : Size) → word_of (low_dividend signed size) v ≡ Some (low_number signed size (regs_in v))
  low_dividend_value true B = extended_value v H (reg 0) (v (name.Reg 0)) (name_value v (name.Reg 0)) (h.words (name.Reg 0))
  low_dividend_value false B = ax_value ∙ ap Some (ax_is (v (name.Reg 0)))
  low_dividend_value signed H = dx_ax_value signed
  low_dividend_value signed W = name_value v (name.Reg 0)

  extension_value : (signed : Bool) (e : CExpr) (l : ℕ) → word_of e v ≡ Some l → word_of (high_extension signed e) v ≡ Some (extension signed l)
  extension_value true e l k = fn2_value v Sar e (num 31) l 31 k (num_value v 31)
  extension_value false e l k = num_value v 0

  pub high_dividend_value : (signed : Bool) (size : Size) → word_of (high_dividend signed size) v ≡ Some (high_number signed size (regs_in v))
  high_dividend_value signed B = extension_value signed (low_dividend signed B) (low_number signed B (regs_in v)) (low_dividend_value signed B)
  high_dividend_value signed H = extension_value signed (low_dividend signed H) (low_number signed H (regs_in v)) (low_dividend_value signed H)
  high_dividend_value signed W = name_value v (name.Reg 2)

-- ---- what the words tell

extended_same_by : (s : Bool) (x : ℕ) → x < 2 ^ 32 → extended_by s (2 ^ 32) (low_part 32 x) ≡ x
extended_same_by true x h = omega arith
extended_same_by false x h = mod-eq_of_lt h

extended_same : (x : ℕ) → x < 2 ^ 32 → sign_extended 32 x ≡ x
extended_same x h = extended_is W x ∙ extended_same_by (sign_bit 32 x) x h

-- AX as a signed number
ax_signed : (x : ℕ) → signed_part 32 (sign_extended 16 x) ≡ signed_part 16 (wide_number 8 (x / 2 ^ 8 % 2 ^ 8) (x % 2 ^ 8))
ax_signed x =
    let e : low_part 16 x ≡ low_part 16 (wide_number 8 (x / 2 ^ 8 % 2 ^ 8) (x % 2 ^ 8)) = omega arith in
    extended_signed H x ∙ ap (λ l. if nat_le (2 ^ 15) l then pos l -ℤ pos (2 ^ 16) else pos l) e

dx_ax_below : (hi lo : ℕ) → wide_number 16 hi lo < 2 ^ 32
dx_ax_below hi lo = omega arith

pub quotient_tells : (signed : Bool) (size : Size) (r : Regs) (d : ℕ) → d < 2 ^ bits_of size
    → Tells (bits_of size) (bad_value signed size (word_quotient signed size r d)) (word_quotient signed size r d) (sized_quotient signed size r d)
quotient_tells true B r d h = byte_signed_tells (sign_extended 16 r.eax) (high_of B r) (part_of B r 0) d (extended_below H r.eax) (ax_signed r.eax)
quotient_tells false B r d h = byte_tells (high_of B r) (part_of B r 0) d h
quotient_tells true H r d h = half_signed_tells (low_number true H r) (high_of H r) (part_of H r 0) d (dx_ax_below (high_of H r) (part_of H r 0)) refl
quotient_tells false H r d h = half_tells (high_of H r) (part_of H r 0) d h
quotient_tells true W r d h =
    subst (λ x. Tells 32 (bad_value true W (signed_quotient_of 32 r.edx r.eax x)) (signed_quotient_of 32 r.edx r.eax x) (sized_quotient true W r d)) (sym (extended_same d h))
    (whole_tells true (signed_quotient_of 32 r.edx r.eax d))
quotient_tells false W r d h = whole_tells false (quotient_of 32 r.edx r.eax d)

-- ---- quotients and remainders are words

pub record AreWords (p : Option (ℕ × ℕ)) : Type 0 where
  pub first : quotient p < 2 ^ 32
  pub second : remainder p < 2 ^ 32

guarded : (c : Bool) (q r : ℕ) → (c ≡ false → q < 2 ^ 32) → (c ≡ false → r < 2 ^ 32) → AreWords (if c then None else Some (q, r))
guarded true q r h k = record { first = lit< tt; second = lit< tt }
guarded false q r h k = record { first = h refl; second = k refl }

first_false : (a b : Bool) → (a || b) ≡ false → a ≡ false
first_false false b e = refl
first_false true b e = absurd cc

second_false : (a b : Bool) → (a || b) ≡ false → b ≡ false
second_false false b e = e
second_false true b e = absurd cc

fits_below : (q : ℕ) → nat_le (2 ^ 32) q ≡ false → q < 2 ^ 32
fits_below q e = grind (arith, nat_tests)

rest_below : (n d : ℕ) → nat_eq (low_part 32 d) 0 ≡ false → n % low_part 32 d < 2 ^ 32
rest_below n d e =
    let k : 0 < low_part 32 d = grind (arith, nat_tests) in
    let l : low_part 32 d < 2 ^ 32 = mod_below d (2 ^ 32) (pow_pos 32) in
    let p : n % low_part 32 d < low_part 32 d = mod_below n (low_part 32 d) k in
    omega arith

taken_below : (z : ℤ) → word_taken 32 z < 2 ^ 32
taken_below (pos a) = omega arith
taken_below (negsuc a) = omega arith

pub quotient_words : (signed : Bool) (hi lo d : ℕ) → AreWords (wide_quotient signed 32 hi lo d)
quotient_words true hi lo d = guarded _ _ _ (λ e. taken_below _) (λ e. taken_below _)
quotient_words false hi lo d =
    let n : ℕ = wide_number 32 hi lo in
    let k : ℕ = low_part 32 d in
    guarded (nat_eq k 0 || nat_le (2 ^ 32) (n / k)) (n / k) (n % k)
    (λ e. fits_below (n / k) (second_false (nat_eq k 0) (nat_le (2 ^ 32) (n / k)) e)) (λ e. rest_below n d (first_false (nat_eq k 0) (nat_le (2 ^ 32) (n / k)) e))
