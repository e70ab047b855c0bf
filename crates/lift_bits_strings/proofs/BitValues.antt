-- What the words of BT, BTS, BTR and BTC give.
use Rattle.std.proofs.Common.{◌≡◌, ℕ, zero, suc, ◌-◌, ◌*◌, ◌/◌, ◌%◌, ◌^◌, ◌<◌, ◌==◌, nat_lt, true, bit_and, bit_or, bit_xor, Some, None, refl, sym, ap, ◌∙◌, arith}
use Rattle.std.specs.Prelude.{if◌then◌else◌}
use Rattle.std.proofs.lemmas.Bool.Decides.{nat_tests}
use Rattle.std.proofs.lemmas.Nat.{and_mask, and_mod, and_le_l, or_lt, xor_lt, pow_below}
use Rattle.std.proofs.Math.Nat.{mod-eq_of_lt}
use Rattle.dream_words.specs.Words.{low_part}
use Rattle.run_parts.specs.World.{Names}
use Rattle.x86_inst.specs.declared.BitOp.{BitOp}
use Rattle.x86_inst.specs.declared.BitOp.TheVariants.{Bt, Bts, Btr, Btc}
use Rattle.x86_inst.specs.declared.Size.{Size}
use Rattle.x86_inst.specs.declared.Size.TheVariants.{B, H, W}
use Rattle.x86_inst.specs.declared.Operand.{Operand}
use Rattle.x86_model.specs.declared.effect.Step.{Step}
use Rattle.x86_model.specs.Arithmetic.{flag_if}
use Rattle.x86_model.specs.Operands.{bits_of, value_of}
use Rattle.x86_model.specs.WideRows.{bit_value}
use Rattle.c_syntax.specs.declared.syntax.CBin.TheVariants as op
use Rattle.c_syntax.specs.Value.{word_of}
use Rattle.c_words.specs.Built.{bin, num, word_not}
use Rattle.lift_parts.specs.Parts.{raw_word, value_word}
use Rattle.lift_parts.specs.Shown.{AreNames, Shows, ShowsRead}
use Rattle.lift_parts.specs.Stands.{StandsFor}
use Rattle.lift_parts.proofs.Values.{raw_is, value_fits, value_is, word_fits}
use Rattle.lift_blocks.proofs.MoveWords.{bin_value, not_value, num_value}
use Rattle.lift_bits_strings.specs.BitForms.{bit_word, index_word, old_bit, one_bit}

-- ---- numbers

-- the mask of an index keeps its remainder
masked : (size : Size) (x y : ℕ) → low_part (bits_of size) x ≡ y → bit_and x (bits_of size - 1) ≡ y % bits_of size
masked B x y h = and_mask x 3 ∙ omega arith
masked H x y h = and_mask x 4 ∙ omega arith
masked W x y h = and_mask x 5 ∙ omega arith

-- an index is below the size, and below 32
pub index_below : (size : Size) (y : ℕ) → y % bits_of size < bits_of size
index_below B y = omega arith
index_below H y = omega arith
index_below W y = omega arith

index_small : (size : Size) (n : ℕ) → n < bits_of size → n < 32
index_small B n h = omega arith
index_small H n h = omega arith
index_small W n h = h

-- a shift by less than 32
shift_goes : (n x : ℕ) → n < 32 → (if nat_lt n 32 then Some x else None) ≡ Some x
shift_goes n x h = ap (λ b. if b then Some x else None) (small n h)
  where
    small : (n : ℕ) → n < 32 → nat_lt n 32 ≡ true
    small n h = grind (arith, nat_tests)

-- one bit alone is a word
one_shifted : (n : ℕ) → n < 32 → low_part 32 (1 * 2 ^ n) ≡ 2 ^ n
one_shifted n h = let k : 2 ^ n < 2 ^ 32 = pow_below n 32 h in ap (low_part 32) (omega arith) ∙ mod-eq_of_lt k

-- the complement of one bit, taken to the size
all_but_one : (size : Size) (p : ℕ) → p < 2 ^ bits_of size → (2 ^ 32 - 1 - p) % 2 ^ bits_of size ≡ (2 ^ bits_of size - 1 - p) % 2 ^ bits_of size
all_but_one B p h = omega arith
all_but_one H p h = omega arith
all_but_one W p h = refl

-- a bit stands for its flag
pub bit_stands : (k : ℕ) → k < 2 → StandsFor (flag_if (k == 1)) k
bit_stands zero h = refl
bit_stands (suc zero) h = refl
bit_stands (suc (suc k)) h = absurd (omega arith)

-- ---- words

module _ (size : Size) (d s : Operand) (a : Step) (v : Names) (names : AreNames v) (shows : Shows a v) (first : ShowsRead size d a v) (second : ShowsRead size s a v) where
  -- the index
  abbrev index : ℕ
  index = value_of size s a % bits_of size

  below : index < 32
  below = index_small size index (index_below size (value_of size s a))

  index_is : word_of (index_word size s) v ≡ Some index
  index_is =
      let (x, is, fits, low) = raw_is a v names shows size s second in
      bin_value v op.And (raw_word size s) (num (bits_of size - 1)) x (bits_of size - 1) is (num_value v (bits_of size - 1)) ∙ ap Some (masked size x (value_of size s a) low)

  one_is : word_of (one_bit size s) v ≡ Some (2 ^ index)
  one_is = bin_value v op.Shl (num 1) (index_word size s) 1 index (num_value v 1) index_is ∙ shift_goes index (low_part 32 (1 * 2 ^ index)) below ∙ ap Some (one_shifted index below)

  -- the operand
  value : word_of (value_word size d) v ≡ Some (value_of size d a)
  value = value_is a v names shows size d first

  fits : value_of size d a < 2 ^ bits_of size
  fits = value_fits a v names shows size d

  is_word : value_of size d a < 2 ^ 32
  is_word = word_fits size (value_of size d a) fits

  one_fits : 2 ^ index < 2 ^ bits_of size
  one_fits = pow_below index (bits_of size) (index_below size (value_of size s a))

  one_is_word : 2 ^ index < 2 ^ 32
  one_is_word = word_fits size (2 ^ index) one_fits

  -- the bit as it was
  pub old_is : word_of (old_bit size d s) v ≡ Some (value_of size d a / 2 ^ index % 2)
  old_is =
      let shifted = bin_value v op.Shr (value_word size d) (index_word size s) (value_of size d a) index value index_is ∙ shift_goes index (value_of size d a / 2 ^ index) below in
      bin_value v op.And (bin op.Shr (value_word size d) (index_word size s)) (num 1) (value_of size d a / 2 ^ index) 1 shifted (num_value v 1)
      ∙ ap Some (and_mask (value_of size d a / 2 ^ index) 1)

  -- a word whose low part is the operand with its bit kept, set, cleared or flipped
  pub bit_is : (f : BitOp) → (x : ℕ) × (word_of (bit_word f size d s) v ≡ Some x) × (x < 2 ^ 32) × (low_part (bits_of size) x ≡ low_part (bits_of size) (bit_value f (bits_of size) (value_of size d a) index))
  bit_is Bt = (value_of size d a, value, is_word, refl)
  bit_is Bts = (
    bit_or (value_of size d a) (2 ^ index),
    bin_value v op.Or (value_word size d) (one_bit size s) (value_of size d a) (2 ^ index) value one_is,
    or_lt 32 (value_of size d a) (2 ^ index) is_word one_is_word,
    refl,
  )
  bit_is Btr =
      let rest : ℕ = 2 ^ 32 - 1 - 2 ^ index in
      let less = and_le_l (value_of size d a) rest in (
        bit_and (value_of size d a) rest,
        bin_value v op.And (value_word size d) (word_not (one_bit size s)) (value_of size d a) rest value (not_value v (one_bit size s) (2 ^ index) one_is),
        omega (arith, less, is_word),
        and_mod (value_of size d a) rest (bits_of size)
            ∙ ap (bit_and (value_of size d a % 2 ^ bits_of size)) (all_but_one size (2 ^ index) one_fits)
            ∙ sym (and_mod (value_of size d a) (2 ^ bits_of size - 1 - 2 ^ index) (bits_of size)),
      )
  bit_is Btc = (
    bit_xor (value_of size d a) (2 ^ index),
    bin_value v op.Xor (value_word size d) (one_bit size s) (value_of size d a) (2 ^ index) value one_is,
    xor_lt 32 (value_of size d a) (2 ^ index) is_word one_is_word,
    refl,
  )
