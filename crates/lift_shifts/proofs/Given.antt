-- What the words of shifts and rotations give: their results, CF and OF.
use Rattle.std.proofs.Common.{◌≡◌, ℕ, ◌+◌, ◌-◌, ◌*◌, ◌/◌, ◌%◌, ◌^◌, ◌<◌, ◌≤◌, min, nat_eq, nat_lt, Bool, true, false, Some, None, refl, sym, ap, ◌∙◌, lit<, arith}
use Rattle.std.specs.Prelude.{if◌then◌else◌}
use Rattle.std.proofs.lemmas.Bool.Decides.{nat_tests}
use Rattle.std.proofs.lemmas.Nat.{mod_below, pow_pos}
use Rattle.dream_words.specs.declared.machine.Bit.TheVariants.{Undefined}
use Rattle.dream_words.specs.declared.machine.Flags.{Flags}
use Rattle.dream_words.specs.Signed.{differ}
use Rattle.dream_words.specs.Words.{bit_of, low_part, shifted_signed, sign_bit, sign_extended}
use Rattle.run_parts.specs.World.{Names}
use Rattle.x86_inst.specs.declared.Count.{Count}
use Rattle.x86_inst.specs.declared.ShiftOp.{ShiftOp}
use Rattle.x86_inst.specs.declared.ShiftOp.TheVariants.{Rol, Ror, Shl, Shr, Sar}
use Rattle.x86_inst.specs.declared.Size.{Size}
use Rattle.x86_inst.specs.declared.Size.TheVariants.{B, H, W}
use Rattle.x86_model.specs.declared.effect.Step.{Step}
use Rattle.x86_model.specs.Arithmetic.{shifted_signed_at}
use Rattle.x86_model.specs.Operands.{bits_of, count_of}
use Rattle.x86_model.specs.WideRows.{shift_flags, shift_value, where_true}
use Rattle.c_syntax.specs.declared.syntax.CBin.TheVariants as op
use Rattle.c_syntax.specs.declared.syntax.CFn2.TheVariants as fn
use Rattle.c_syntax.specs.declared.syntax.CExpr.{CExpr}
use Rattle.c_syntax.specs.Value.{word_of}
use Rattle.c_words.specs.Built.{bin, fn2, num}
use Rattle.lift_parts.specs.Parts.{temp}
use Rattle.lift_parts.proofs.Values.{low_is, word_fits}
use Rattle.lift_alu.specs.Words.{top_word}
use Rattle.lift_blocks.specs.Extended.{extended}
use Rattle.lift_blocks.proofs.MoveWords.{bin_value, extended_below, extended_value, fn2_value, num_value}
use Rattle.lift_shifts.specs.Counts.{back_word, before_word, count_word, rest_word, turns_word}
use Rattle.lift_shifts.specs.Shifts.{carry_word, lowest_word, over_word, rotates, shift_word}
use Rattle.lift_shifts.proofs.CountWords.{back_below, back_is, before_is, below_size, count_below, count_is, rest_is, turns_below, turns_is}
use Rattle.lift_shifts.proofs.Outs.{left_out, lowest_is, out_by_one, second_is, signed_out, xor_of_bits}
use Rattle.lift_shifts.proofs.Shifted.{low_low, rol_is, ror_is, sar_is, signed_fits, shift_fits}
use Rattle.lift_shifts.proofs.Setting.{GiveFlags, are_by_result, gives_truth, gives_where, temp_is, top_word_is}
use Rattle.lift_shifts.proofs.Taken.{Gives, Seen, Taken}

-- ---- shifts by counts below 32

below_test : (k : ℕ) → k < 32 → nat_lt k 32 ≡ true
below_test k h = grind (arith, nat_tests)

shl_is : (v : Names) (e n : CExpr) (x k : ℕ) → word_of e v ≡ Some x → word_of n v ≡ Some k → k < 32 → word_of (bin op.Shl e n) v ≡ Some (low_part 32 (x * 2 ^ k))
shl_is v e n x k h g l = bin_value v op.Shl e n x k h g ∙ ap (λ t. if t then Some (low_part 32 (x * 2 ^ k)) else None) (below_test k l)

shr_is : (v : Names) (e n : CExpr) (x k : ℕ) → word_of e v ≡ Some x → word_of n v ≡ Some k → k < 32 → word_of (bin op.Shr e n) v ≡ Some (x / 2 ^ k)
shr_is v e n x k h g l = bin_value v op.Shr e n x k h g ∙ ap (λ t. if t then Some (x / 2 ^ k) else None) (below_test k l)

low_fits_word : (y : ℕ) → low_part 32 y < 2 ^ 32
low_fits_word y = mod_below y (2 ^ 32) (pow_pos 32)

-- the words of two parts, one shifted by a count and the other by another and then by 1
pub left_sum : (v : Names) (e f n m : CExpr) (x y k j : ℕ) → word_of e v ≡ Some x → word_of f v ≡ Some y → word_of n v ≡ Some k → word_of m v ≡ Some j → k < 32 → j < 32
    → word_of (bin op.Add (bin op.Shl e n) (bin op.Shr (bin op.Shr f m) (num 1))) v ≡ Some (low_part 32 (low_part 32 (x * 2 ^ k) + y / 2 ^ j / 2))
left_sum v e f n m x y k j h o g i l p =
    bin_value v op.Add (bin op.Shl e n) (bin op.Shr (bin op.Shr f m) (num 1)) (low_part 32 (x * 2 ^ k)) (y / 2 ^ j / 2) (shl_is v e n x k h g l)
    (shr_is v (bin op.Shr f m) (num 1) (y / 2 ^ j) 1 (shr_is v f m y j o i p) (num_value v 1) (lit< tt))

pub right_sum : (v : Names) (e f n m : CExpr) (x y k j : ℕ) → word_of e v ≡ Some x → word_of f v ≡ Some y → word_of n v ≡ Some k → word_of m v ≡ Some j → k < 32 → j < 32
    → word_of (bin op.Add (bin op.Shl (bin op.Shl f m) (num 1)) (bin op.Shr e n)) v ≡ Some (low_part 32 (low_part 32 (low_part 32 (y * 2 ^ j) * 2) + x / 2 ^ k))
right_sum v e f n m x y k j h o g i l p =
    bin_value v op.Add (bin op.Shl (bin op.Shl f m) (num 1)) (bin op.Shr e n) (low_part 32 (low_part 32 (y * 2 ^ j) * 2)) (x / 2 ^ k)
    (shl_is v (bin op.Shl f m) (num 1) (low_part 32 (y * 2 ^ j)) 1 (shl_is v f m y j o i p) (num_value v 1) (lit< tt)) (shr_is v e n x k h g l)

-- ---- results

module _ (size : Size) (a : Step) (x : ℕ) (c : Count) (fits : x < 2 ^ bits_of size) where
  operand_is : (v : Names) → Taken a x v → word_of (temp 0) v ≡ Some x
  operand_is v h = temp_is 0 x v h.operand

  extended_operand : (v : Names) → Taken a x v → word_of (extended size (temp 0)) v ≡ Some (sign_extended (bits_of size) x)
  extended_operand v h = extended_value v size (temp 0) x (operand_is v h) (word_fits size x fits)

  pub shift_word_is : (f : ShiftOp) (v : Names) → Taken a x v → word_of (shift_word f size c) v ≡ Some (shift_value f (bits_of size) x (count_of c a))
  shift_word_is Shl v h =
      low_is v size (bin op.Shl (temp 0) (count_word c)) (low_part 32 (x * 2 ^ count_of c a)) (low_fits_word (x * 2 ^ count_of c a))
      (shl_is v (temp 0) (count_word c) x (count_of c a) (operand_is v h) (count_is a v h.shows c) (count_below c a))
      ∙ ap Some (low_low size (x * 2 ^ count_of c a))
  shift_word_is Shr v h = shr_is v (temp 0) (count_word c) x (count_of c a) (operand_is v h) (count_is a v h.shows c) (count_below c a)
  shift_word_is Sar v h =
      let y : ℕ = sign_extended (bits_of size) x in
      low_is v size (fn2 fn.Sar (extended size (temp 0)) (count_word c)) (shifted_signed y (min (count_of c a) 31)) (signed_fits y (min (count_of c a) 31) (extended_below size x))
      (fn2_value v fn.Sar (extended size (temp 0)) (count_word c) y (count_of c a) (extended_operand v h) (count_is a v h.shows c))
      ∙ ap Some (sar_is size x (count_of c a) fits (count_below c a))
  shift_word_is Rol v h =
      let k : ℕ = count_of c a % bits_of size in
      let j : ℕ = bits_of size - 1 - k in
      low_is v size _ (low_part 32 (low_part 32 (x * 2 ^ k) + x / 2 ^ j / 2)) (low_fits_word (low_part 32 (x * 2 ^ k) + x / 2 ^ j / 2))
      (left_sum v (temp 0) (temp 0) (turns_word size c) (back_word size c) x x k j (operand_is v h) (operand_is v h) (turns_is size a v h.shows c) (back_is size a v h.names h.shows c)
      (turns_below size (count_of c a)) (back_below size (count_of c a)))
      ∙ ap Some (rol_is size x k (below_size size (count_of c a)))
  shift_word_is Ror v h =
      let k : ℕ = count_of c a % bits_of size in
      let j : ℕ = bits_of size - 1 - k in
      low_is v size _ (low_part 32 (low_part 32 (low_part 32 (x * 2 ^ j) * 2) + x / 2 ^ k)) (low_fits_word (low_part 32 (low_part 32 (x * 2 ^ j) * 2) + x / 2 ^ k))
      (right_sum v (temp 0) (temp 0) (turns_word size c) (back_word size c) x x k j (operand_is v h) (operand_is v h) (turns_is size a v h.shows c) (back_is size a v h.names h.shows c)
      (turns_below size (count_of c a)) (back_below size (count_of c a)))
      ∙ ap Some (ror_is size x k (below_size size (count_of c a)))

  -- ---- CF

  -- the lowest bit of a word
  lowest_word_is : (v : Names) (e : CExpr) (y : ℕ) → word_of e v ≡ Some y → word_of (lowest_word e) v ≡ Some (bit_of (nat_eq (y % 2) 1))
  lowest_word_is v e y h = bin_value v op.And e (num 1) y 1 h (num_value v 1) ∙ ap Some (lowest_is y)

  -- CF of a shift to the left, and of one to the right
  pub left_gives : (v : Names) → Taken a x v → 0 < count_of c a
      → Gives (where_true (nat_lt (count_of c a) (bits_of size)) (nat_eq (x * 2 ^ count_of c a / 2 ^ bits_of size % 2) 1)) (carry_word Shl size c) v
  left_gives v h some =
      let (y, is, small, same) = rest_is size a v h.names h.shows c in
      gives_where (nat_lt (count_of c a) (bits_of size)) (nat_eq (x / 2 ^ y % 2) 1) (nat_eq (x * 2 ^ count_of c a / 2 ^ bits_of size % 2) 1) (carry_word Shl size c) v
      (lowest_word_is v (bin op.Shr (temp 0) (rest_word size c)) (x / 2 ^ y) (shr_is v (temp 0) (rest_word size c) x y (operand_is v h) is small))
      (λ t. ap (λ k. nat_eq (x / 2 ^ k % 2) 1) (same some (at_most (count_of c a) (bits_of size) t)) ∙ left_out x (bits_of size) (count_of c a) (at_most (count_of c a) (bits_of size) t))
    where
      at_most : (k m : ℕ) → nat_lt k m ≡ true → k ≤ m
      at_most k m t = grind (arith, nat_tests)

  pub right_gives : (v : Names) → Taken a x v → 0 < count_of c a
      → Gives (where_true (nat_lt (count_of c a) (bits_of size)) (nat_eq (x / 2 ^ (count_of c a - 1) % 2) 1)) (carry_word Shr size c) v
  right_gives v h some =
      let (y, is, small, same) = before_is a v h.names h.shows c in
      gives_where (nat_lt (count_of c a) (bits_of size)) (nat_eq (x / 2 ^ y % 2) 1) (nat_eq (x / 2 ^ (count_of c a - 1) % 2) 1) (carry_word Shr size c) v
      (lowest_word_is v (bin op.Shr (temp 0) (before_word c)) (x / 2 ^ y) (shr_is v (temp 0) (before_word c) x y (operand_is v h) is small))
      (λ t. ap (λ k. nat_eq (x / 2 ^ k % 2) 1) (same some))

  carry_gives : (f : ShiftOp) (g : Flags) (v : Names) → 0 < count_of c a → Seen a x (shift_value f (bits_of size) x (count_of c a)) v
      → Gives (shift_flags f (bits_of size) x (count_of c a) g).c (carry_word f size c) v
  carry_gives Shl g v some h = left_gives v h.taken some
  carry_gives Shr g v some h = right_gives v h.taken some
  carry_gives Sar g v some h =
      let (y, is, small, same) = before_is a v h.taken.names h.taken.shows c in
      let e : ℕ = sign_extended (bits_of size) x in
      gives_truth (nat_eq (shifted_signed_at (bits_of size) x (count_of c a - 1) % 2) 1) (carry_word Sar size c) v
      (bin_value v op.And (fn2 fn.Sar (extended size (temp 0)) (before_word c)) (num 1) (shifted_signed e (min y 31)) 1
      (fn2_value v fn.Sar (extended size (temp 0)) (before_word c) e y (extended_operand v h.taken) is) (num_value v 1)
      ∙ ap Some (signed_out size x y fits small)
      ∙ ap (λ k. Some (bit_of (nat_eq (shifted_signed_at (bits_of size) x k % 2) 1))) (same some))
  carry_gives Rol g v some h =
      let r : ℕ = shift_value Rol (bits_of size) x (count_of c a) in
      gives_truth (nat_eq (r % 2) 1) (carry_word Rol size c) v (lowest_word_is v (temp 2) r (temp_is 2 r v h.result))
  carry_gives Ror g v some h =
      let r : ℕ = shift_value Ror (bits_of size) x (count_of c a) in
      gives_truth (sign_bit (bits_of size) r) (carry_word Ror size c) v (top_word_is size (temp 2) r v (shift_fits Ror (bits_of size) x (count_of c a) fits) (temp_is 2 r v h.result))

  -- ---- OF

  -- whether two bits differ
  differ_is : (v : Names) (e f : CExpr) (p q : Bool) → word_of e v ≡ Some (bit_of p) → word_of f v ≡ Some (bit_of q) → word_of (bin op.Xor e f) v ≡ Some (bit_of (differ p q))
  differ_is v e f p q h k = bin_value v op.Xor e f (bit_of p) (bit_of q) h k ∙ ap Some (xor_of_bits p q)

  -- the top bits of the result and of the operand differ
  pub tops_differ : (r : ℕ) (v : Names) → r < 2 ^ bits_of size → Seen a x r v
      → word_of (over_word Shl size) v ≡ Some (bit_of (differ (sign_bit (bits_of size) r) (sign_bit (bits_of size) x)))
  tops_differ r v l h =
      differ_is v (top_word (bits_of size) (temp 2)) (top_word (bits_of size) (temp 0)) (sign_bit (bits_of size) r) (sign_bit (bits_of size) x)
      (top_word_is size (temp 2) r v l (temp_is 2 r v h.result)) (top_word_is size (temp 0) x v fits (operand_is v h.taken))

  second_value : (v : Names) (r : ℕ) → word_of (temp 2) v ≡ Some r → (s : Size) → word_of (bin op.Shr (temp 2) (num (bits_of s - 2))) v ≡ Some (r / 2 ^ (bits_of s - 2))
  second_value v r h B = shr_is v (temp 2) (num 6) r 6 h (num_value v 6) (lit< tt)
  second_value v r h H = shr_is v (temp 2) (num 14) r 14 h (num_value v 14) (lit< tt)
  second_value v r h W = shr_is v (temp 2) (num 30) r 30 h (num_value v 30) (lit< tt)

  over_gives : (f : ShiftOp) (g : Flags) (v : Names) → Seen a x (shift_value f (bits_of size) x (count_of c a)) v
      → Gives (shift_flags f (bits_of size) x (count_of c a) g).o (over_word f size) v
  over_gives Shl g v h =
      let r : ℕ = shift_value Shl (bits_of size) x (count_of c a) in
      let s : Bool = sign_bit (bits_of size) r in
      gives_where (nat_eq (count_of c a) 1) (differ s (sign_bit (bits_of size) x)) (differ s (nat_eq (x * 2 ^ count_of c a / 2 ^ bits_of size % 2) 1)) (over_word Shl size) v
      (tops_differ r v (shift_fits Shl (bits_of size) x (count_of c a) fits) h)
      (λ t. ap (differ s) (sym (out_by_one size x fits)) ∙ ap (λ k. differ s (nat_eq (x * 2 ^ k / 2 ^ bits_of size % 2) 1)) (sym (one (count_of c a) t)))
    where
      one : (k : ℕ) → nat_eq k 1 ≡ true → k ≡ 1
      one k t = grind (arith, nat_tests)
  over_gives Shr g v h =
      gives_where (nat_eq (count_of c a) 1) (sign_bit (bits_of size) x) (sign_bit (bits_of size) x) (over_word Shr size) v (top_word_is size (temp 0) x v fits (operand_is v h.taken)) (λ t. refl)
  over_gives Sar g v h = gives_where (nat_eq (count_of c a) 1) false false (num 0) v (num_value v 0) (λ t. refl)
  over_gives Rol g v h =
      let r : ℕ = shift_value Rol (bits_of size) x (count_of c a) in
      let b : Bool = differ (sign_bit (bits_of size) r) (nat_eq (r % 2) 1) in
      let t : word_of (temp 2) v ≡ Some r = temp_is 2 r v h.result in
      gives_where (nat_eq (count_of c a) 1) b b (over_word Rol size) v
      (differ_is v (top_word (bits_of size) (temp 2)) (lowest_word (temp 2)) (sign_bit (bits_of size) r) (nat_eq (r % 2) 1)
      (top_word_is size (temp 2) r v (shift_fits Rol (bits_of size) x (count_of c a) fits) t) (lowest_word_is v (temp 2) r t)) (λ t. refl)
  over_gives Ror g v h =
      let r : ℕ = shift_value Ror (bits_of size) x (count_of c a) in
      let b : Bool = differ (sign_bit (bits_of size) r) (sign_bit (bits_of size - 1) r) in
      let t : word_of (temp 2) v ≡ Some r = temp_is 2 r v h.result in
      gives_where (nat_eq (count_of c a) 1) b b (over_word Ror size) v
      (differ_is v (top_word (bits_of size) (temp 2)) (lowest_word (bin op.Shr (temp 2) (num (bits_of size - 2)))) (sign_bit (bits_of size) r) (sign_bit (bits_of size - 1) r)
      (top_word_is size (temp 2) r v (shift_fits Ror (bits_of size) x (count_of c a) fits) t)
      (lowest_word_is v (bin op.Shr (temp 2) (num (bits_of size - 2))) (r / 2 ^ (bits_of size - 2)) (second_value v r t size) ∙ ap (λ q. Some (bit_of q)) (second_is size r))) (λ t. refl)

  -- ---- all flags

  -- OF is undefined but for a count of 1
  pub over_undefined : (f : ShiftOp) (g : Flags) → nat_eq (count_of c a) 1 ≡ false → (shift_flags f (bits_of size) x (count_of c a) g).o ≡ Undefined
  over_undefined Shl g e = ap (λ t. where_true t (differ (sign_bit (bits_of size) (shift_value Shl (bits_of size) x (count_of c a))) (nat_eq (x * 2 ^ count_of c a / 2 ^ bits_of size % 2) 1))) e
  over_undefined Shr g e = ap (λ t. where_true t (sign_bit (bits_of size) x)) e
  over_undefined Sar g e = ap (λ t. where_true t false) e
  over_undefined Rol g e =
      ap (λ t. where_true t (differ (sign_bit (bits_of size) (shift_value Rol (bits_of size) x (count_of c a))) (nat_eq (shift_value Rol (bits_of size) x (count_of c a) % 2) 1))) e
  over_undefined Ror g e =
      ap (λ t. where_true t (differ (sign_bit (bits_of size) (shift_value Ror (bits_of size) x (count_of c a))) (sign_bit (bits_of size - 1) (shift_value Ror (bits_of size) x (count_of c a))))) e

  -- SF, ZF and PF are by the result, but of a rotation
  pub shift_gives : (f : ShiftOp) (g : Flags) → 0 < count_of c a
      → GiveFlags a x (shift_value f (bits_of size) x (count_of c a)) (rotates f) size c (carry_word f size c) (over_word f size) (shift_flags f (bits_of size) x (count_of c a) g)
  shift_gives Shl g some = record {
    carry = λ v h. carry_gives Shl g v some h;
    over = λ v h. over_gives Shl g v h;
    result = λ e v h. are_by_result size (shift_value Shl (bits_of size) x (count_of c a)) _ _ a x v (shift_fits Shl (bits_of size) x (count_of c a) fits) h;
  }
  shift_gives Shr g some = record {
    carry = λ v h. carry_gives Shr g v some h;
    over = λ v h. over_gives Shr g v h;
    result = λ e v h. are_by_result size (shift_value Shr (bits_of size) x (count_of c a)) _ _ a x v (shift_fits Shr (bits_of size) x (count_of c a) fits) h;
  }
  shift_gives Sar g some = record {
    carry = λ v h. carry_gives Sar g v some h;
    over = λ v h. over_gives Sar g v h;
    result = λ e v h. are_by_result size (shift_value Sar (bits_of size) x (count_of c a)) _ _ a x v (shift_fits Sar (bits_of size) x (count_of c a) fits) h;
  }
  shift_gives Rol g some = record { carry = λ v h. carry_gives Rol g v some h; over = λ v h. over_gives Rol g v h; result = λ e. absurd cc }
  shift_gives Ror g some = record { carry = λ v h. carry_gives Ror g v some h; over = λ v h. over_gives Ror g v h; result = λ e. absurd cc }
