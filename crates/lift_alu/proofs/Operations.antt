-- The words of each operation have its result and its flags, and none of them is stuck.
use Rattle.std.proofs.Common.{◌≡◌, ℕ, ◌+◌, ◌-◌, ◌^◌, ◌<◌, Bool, true, false, not, nat_eq, nat_lt, ◌&&◌, ◌||◌, bit_and, bit_or, arith, refl, ap, sym, ◌∙◌, subst, Option, Some}
use Rattle.std.specs.Prelude.{bit_xor, Result, Ok, Err, IfOk}
use Rattle.std.specs.declared.alloc.AllocError.{AllocError}
use Rattle.std.proofs.lemmas.Nat.{and_le_l, or_lt, xor_lt}
use Rattle.dream_words.specs.declared.machine.Name.TheVariants.{Flag}
use Rattle.dream_words.specs.Words.{IsSize, low_part, sign_bit, bit_of, carries, borrows, sum_overflows, difference_overflows, has_even_ones}
use Rattle.x86_inst.specs.declared.AluOp.{AluOp}
use Rattle.x86_inst.specs.declared.AluOp.TheVariants as op
use Rattle.x86_model.specs.Arithmetic.{flag_if, by_result, sum_of, sum_flags, difference_of, difference_flags, logic_flags, alu_value, alu_flags}
use Rattle.run_parts.specs.World.{Names}
use Rattle.c_syntax.specs.declared.syntax.CBin.{CBin}
use Rattle.c_syntax.specs.declared.syntax.CBin.TheVariants.{Add, Sub, And, Or, Xor}
use Rattle.c_syntax.specs.declared.syntax.CFn1.TheVariants.{Par}
use Rattle.c_syntax.specs.declared.syntax.CExpr.{CExpr}
use Rattle.c_syntax.specs.Value.{word_of}
use Rattle.c_syntax.specs.Words.{bin_of}
use Rattle.c_words.specs.Built.{num, name, bin}
use Rattle.lift_alu.specs.declared.alu.AluLift.{AluLift}
use Rattle.lift_alu.specs.Words.{low_word, below_word, below_with_carry_word, overflow_word, six_words, sum_words, difference_words, add_words, adc_words, sub_words, sbb_words, logic_words, part_words, alu_words}
use Rattle.lift_alu.specs.Lifts.{Shows, Lifts, CarryIs, LiftsAlu}
use Rattle.lift_alu.proofs.Values.{num_value, name_value, bin_value, fn1_value, low_value, top_value, zero_value, below_value, below_with_carry_value, overflow_value}
use Rattle.lift_alu.proofs.Numbers.{low_below, low_same, sum_below, difference_below, sum_is, sum_with_carry_is, difference_is, difference_with_borrow_is, carry_is, borrow_is, carry_with_is, borrow_with_is}
use Rattle.lift_alu.proofs.Given.{alu_gives}
use Rattle.lift_alu.proofs.Signs.{sum_overflows_by_signs, difference_overflows_by_signs}

shows : (b : Bool) (w : Option ℕ) → w ≡ Some (bit_of b) → Shows (flag_if b) w
shows true w h = h
shows false w h = h

module _ (v : Names) (bits : ℕ) (size : IsSize bits) where
  -- a result with its carry and its overflow
  six_lift : (r c o : CExpr) (x : ℕ) (p q : Bool) → x < 2 ^ bits → word_of r v ≡ Some x → word_of c v ≡ Some (bit_of p) → word_of o v ≡ Some (bit_of q)
      → Lifts v (six_words bits r c o) x (by_result bits x (flag_if p) (flag_if q))
  six_lift r c o x p q small e f g = record {
    result = e;
    c = shows p (word_of c v) f;
    p = shows (has_even_ones x) _ (fn1_value v Par r x e);
    z = shows (nat_eq (low_part bits x) 0) _ (zero_value v r x e ∙ ap (λ n. Some (bit_of (nat_eq n 0))) (sym (low_same bits x small)));
    s = shows (sign_bit bits x) _ (top_value v bits r x size e small);
    o = shows q (word_of o v) g;
  }

  module _ (a b : CExpr) (x y : ℕ) (a_is : word_of a v ≡ Some x) (b_is : word_of b v ≡ Some y) (x_small : x < 2 ^ bits) (y_small : y < 2 ^ bits) where
    -- a sum with its carry, and a difference with its borrow
    sum_lift : (r c : CExpr) (k : Bool) → word_of r v ≡ Some (sum_of bits x y k) → word_of c v ≡ Some (bit_of (carries bits x y k))
        → Lifts v (sum_words bits a b r c) (sum_of bits x y k) (sum_flags bits x y k)
    sum_lift r c k e f =
        six_lift r c (overflow_word bits a r b r) (sum_of bits x y k) (carries bits x y k) (sum_overflows bits x y k) (sum_below bits x y k) e f
        (overflow_value v bits a r b r x (sum_of bits x y k) y (sum_of bits x y k) size a_is e b_is e x_small (sum_below bits x y k) y_small (sum_below bits x y k)
        ∙ ap (λ t. Some (bit_of t)) (sum_overflows_by_signs bits x y k size x_small y_small))

    difference_lift : (r c : CExpr) (k : Bool) → word_of r v ≡ Some (difference_of bits x y k) → word_of c v ≡ Some (bit_of (borrows bits x y k))
        → Lifts v (difference_words bits a b r c) (difference_of bits x y k) (difference_flags bits x y k)
    difference_lift r c k e f =
        six_lift r c (overflow_word bits a b a r) (difference_of bits x y k) (borrows bits x y k) (difference_overflows bits x y k) (difference_below bits x y k) e f
        (overflow_value v bits a b a r x y x (difference_of bits x y k) size a_is b_is a_is e x_small y_small x_small (difference_below bits x y k)
        ∙ ap (λ t. Some (bit_of t)) (difference_overflows_by_signs bits x y k size x_small y_small))

    add_lift : Lifts v (add_words bits a b) (sum_of bits x y false) (sum_flags bits x y false)
    add_lift =
        let r : word_of (low_word bits (bin Add a b)) v ≡ Some (sum_of bits x y false) =
        low_value v bits (bin Add a b) (low_part 32 (x + y)) size (bin_value v Add a b x y a_is b_is) (low_below 32 (x + y)) ∙ ap Some (sum_is bits x y size x_small y_small) in
        sum_lift (low_word bits (bin Add a b)) (below_word (low_word bits (bin Add a b)) a) false r
        (below_value v (low_word bits (bin Add a b)) a (sum_of bits x y false) x r a_is ∙ ap (λ t. Some (bit_of t)) (carry_is bits x y size x_small y_small))

    sub_lift : Lifts v (sub_words bits a b) (difference_of bits x y false) (difference_flags bits x y false)
    sub_lift =
        difference_lift (low_word bits (bin Sub a b)) (below_word a b) false
        (low_value v bits (bin Sub a b) (low_part 32 (x + 2 ^ 32 - y)) size (bin_value v Sub a b x y a_is b_is) (low_below 32 (x + 2 ^ 32 - y)) ∙ ap Some (difference_is bits x y size x_small y_small))
        (below_value v a b x y a_is b_is ∙ ap (λ t. Some (bit_of t)) (borrow_is bits x y size x_small y_small))

    module _ (k : Bool) (carry_is_k : v (Flag 0) ≡ bit_of k) where
      carry_value : word_of (name (Flag 0)) v ≡ Some (bit_of k)
      carry_value = name_value v 0 ∙ ap Some carry_is_k

      below_carry_value : (c d : CExpr) (w z : ℕ) → word_of c v ≡ Some w → word_of d v ≡ Some z
          → word_of (below_with_carry_word c d) v ≡ Some (bit_of (nat_lt w z || (nat_eq w z && not (nat_eq (bit_of k) 0))))
      below_carry_value c d w z e f =
          below_with_carry_value v c d w z e f ∙ ap (λ n. Some (bit_of (nat_lt w z || (nat_eq w z && not (nat_eq n 0))))) carry_is_k

      adc_lift : Lifts v (adc_words bits a b) (sum_of bits x y k) (sum_flags bits x y k)
      adc_lift =
          let r : word_of (low_word bits (bin Add (bin Add a b) (name (Flag 0)))) v ≡ Some (sum_of bits x y k) =
          low_value v bits (bin Add (bin Add a b) (name (Flag 0))) (low_part 32 (low_part 32 (x + y) + bit_of k)) size
          (bin_value v Add (bin Add a b) (name (Flag 0)) (low_part 32 (x + y)) (bit_of k) (bin_value v Add a b x y a_is b_is) carry_value) (low_below 32 (low_part 32 (x + y) + bit_of k))
          ∙ ap Some (sum_with_carry_is bits x y k size x_small y_small) in
          sum_lift (low_word bits (bin Add (bin Add a b) (name (Flag 0)))) (below_with_carry_word (low_word bits (bin Add (bin Add a b) (name (Flag 0)))) a) k r
          (below_carry_value (low_word bits (bin Add (bin Add a b) (name (Flag 0)))) a (sum_of bits x y k) x r a_is ∙ ap (λ t. Some (bit_of t)) (carry_with_is bits x y k size x_small y_small))

      sbb_lift : Lifts v (sbb_words bits a b) (difference_of bits x y k) (difference_flags bits x y k)
      sbb_lift =
          difference_lift (low_word bits (bin Sub (bin Sub a b) (name (Flag 0)))) (below_with_carry_word a b) k
          (low_value v bits (bin Sub (bin Sub a b) (name (Flag 0))) (low_part 32 (low_part 32 (x + 2 ^ 32 - y) + 2 ^ 32 - bit_of k)) size
          (bin_value v Sub (bin Sub a b) (name (Flag 0)) (low_part 32 (x + 2 ^ 32 - y)) (bit_of k) (bin_value v Sub a b x y a_is b_is) carry_value) (low_below 32 (low_part 32 (x + 2 ^ 32 - y) + 2 ^ 32 - bit_of k))
          ∙ ap Some (difference_with_borrow_is bits x y k size x_small y_small))
          (below_carry_value a b x y a_is b_is ∙ ap (λ t. Some (bit_of t)) (borrow_with_is bits x y k size x_small y_small))

    logic_lift : (f : CBin) (z : ℕ) → bin_of f x y ≡ Some z → z < 2 ^ bits → Lifts v (logic_words f bits a b) z (logic_flags bits z)
    logic_lift f z e small = six_lift (bin f a b) (num 0) (num 0) z false false small (bin_value v f a b x y a_is b_is ∙ e) (num_value v 0) (num_value v 0)

    -- each operation on low parts
    part_lift : (op : AluOp) (k : Bool) → CarryIs op k (v (Flag 0)) → Lifts v (part_words op bits a b) (alu_value op bits x y k) (alu_flags op bits x y k)
    part_lift op.Add k h = add_lift
    part_lift op.Or k h = logic_lift Or (bit_or x y) refl (or_lt bits x y x_small y_small)
    part_lift op.Adc k h = adc_lift k h
    part_lift op.Sbb k h = sbb_lift k h
    part_lift op.And k h = logic_lift And (bit_and x y) refl (omega (arith, and_le_l x y))
    part_lift op.Sub k h = sub_lift
    part_lift op.Xor k h = logic_lift Xor (bit_xor x y) refl (xor_lt bits x y x_small y_small)
    part_lift op.Cmp k h = sub_lift

-- the words of an operation are those of its result and flags
pub alu_lifts : (op : AluOp) (bits : ℕ) (a b : CExpr) → IsSize bits → LiftsAlu op bits a b (alu_words op bits a b)
alu_lifts op bits a b size = record {
  effect = λ v x y c e f p q carry.
      part_lift v bits size (low_word bits a) (low_word bits b) (low_part bits x) (low_part bits y) (low_value v bits a x size e p) (low_value v bits b y size f q) (low_below bits x) (low_below bits y) op c carry;
  never_stuck = λ v x y e f. alu_gives v bits size op a b x y e f;
}

-- words that are made so
pub lifts_of_words : (op : AluOp) (bits : ℕ) (a b x y : CExpr) (r : Result AluLift AllocError) → IsSize bits → x ≡ low_word bits a → y ≡ low_word bits b
    → IfOk r (λ l. l ≡ part_words op bits x y) → IfOk r (λ l. LiftsAlu op bits a b l)
lifts_of_words op bits a b x y (Ok l) size e f h =
    subst (LiftsAlu op bits a b) (sym (h ∙ ap (λ w. part_words op bits w y) e ∙ ap (part_words op bits (low_word bits a)) f)) (alu_lifts op bits a b size)
lifts_of_words op bits a b x y (Err s) size e f h = h
