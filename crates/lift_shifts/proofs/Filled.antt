-- The statements of double shifts lead where their instructions do.
use Rattle.std.proofs.Common.{◌≡◌, ℕ, ◌-◌, ◌*◌, ◌/◌, ◌%◌, ◌^◌, ◌<◌, ◌≤◌, nat_eq, nat_lt, Bool, true, false, Some, refl, sym, ap, ◌∙◌, subst, arith}
use Rattle.std.proofs.lemmas.Bool.Decides.{nat_tests}
use Rattle.std.proofs.Math.Nat.{mod-eq_of_lt}
use Rattle.dream_words.specs.declared.machine.Name.TheVariants as name
use Rattle.dream_words.specs.Registers.{reg_of}
use Rattle.dream_words.specs.Signed.{differ}
use Rattle.dream_words.specs.Words.{sign_bit}
use Rattle.run_parts.specs.World.{Names}
use Rattle.x86_inst.specs.declared.Count.{Count}
use Rattle.x86_inst.specs.declared.Inst.TheVariants as i
use Rattle.x86_inst.specs.declared.Operand.{Operand}
use Rattle.x86_inst.specs.declared.ShiftOp.TheVariants.{Shl}
use Rattle.x86_inst.specs.declared.Size.TheVariants.{W}
use Rattle.x86_model.specs.declared.effect.Step.{Step}
use Rattle.x86_model.specs.Arithmetic.{flag_if}
use Rattle.x86_model.specs.Operands.{count_of, value_of}
use Rattle.x86_model.specs.Successors.{is_none}
use Rattle.x86_model.specs.WideRows.{double_flags, double_out, double_value, where_true}
use Rattle.c_syntax.specs.Value.{word_of}
use Rattle.lift_parts.specs.Parts.{reg, temp}
use Rattle.lift_parts.specs.Shown.{AreNames, Shows}
use Rattle.lift_parts.proofs.Values.{reg_fits, reg_is, value_fits}
use Rattle.lift_blocks.specs.Effects.{GoesOn}
use Rattle.lift_blocks.proofs.Common.{by_step}
use Rattle.lift_blocks.proofs.MoveWords.{name_value}
use Rattle.lift_shifts.specs.Counts.{back_word, count_word}
use Rattle.lift_shifts.specs.Shifts.{double_carry_word, double_stmts, double_word, over_word}
use Rattle.lift_shifts.proofs.CountWords.{back_is, count_below, count_is}
use Rattle.lift_shifts.proofs.Given.{left_gives, left_sum, right_gives, right_sum, tops_differ}
use Rattle.lift_shifts.proofs.Leading.{GiveShift, all_counted, is_zero, not_zero}
use Rattle.lift_shifts.proofs.Outs.{left_out}
use Rattle.lift_shifts.proofs.Shifted.{double_fits, double_left_is, double_none_is, double_right_is}
use Rattle.lift_shifts.proofs.Setting.{are_by_result, gives_where, temp_is}
use Rattle.lift_shifts.proofs.Taken.{Gives, Taken}

-- ---- the result

-- the register that fills
filling_is : (a : Step) (v : Names) → AreNames v → Shows a v → (g : ℕ) → word_of (reg g) v ≡ Some (reg_of a.regs g)
filling_is a v h s g = name_value v (name.Reg g) ∙ ap Some (reg_is v h g ∙ ap (λ r. reg_of r g) s.regs)

-- the count is below the size
back_whole : (a : Step) (v : Names) → AreNames v → Shows a v → (c : Count) → word_of (back_word W c) v ≡ Some (31 - count_of c a)
back_whole a v h s c = back_is W a v h s c ∙ ap (λ k. Some (31 - k)) (mod-eq_of_lt (count_below c a))

less_below : (k : ℕ) → 31 - k < 32
less_below k = omega arith

double_word_is : (left : Bool) (a : Step) (x g : ℕ) (c : Count) (v : Names) → Taken a x v → word_of (double_word left g c) v ≡ Some (double_value left x (reg_of a.regs g) (count_of c a))
double_word_is true a x g c v h =
    let k : ℕ = count_of c a in
    left_sum v (temp 0) (reg g) (count_word c) (back_word W c) x (reg_of a.regs g) k (31 - k) (temp_is 0 x v h.operand) (filling_is a v h.names h.shows g)
    (count_is a v h.shows c) (back_whole a v h.names h.shows c) (count_below c a) (less_below k)
    ∙ ap Some (double_left_is x (reg_of a.regs g) k (count_below c a))
double_word_is false a x g c v h =
    let k : ℕ = count_of c a in
    right_sum v (temp 0) (reg g) (count_word c) (back_word W c) x (reg_of a.regs g) k (31 - k) (temp_is 0 x v h.operand) (filling_is a v h.names h.shows g)
    (count_is a v h.shows c) (back_whole a v h.names h.shows c) (count_below c a) (less_below k)
    ∙ ap Some (double_right_is x (reg_of a.regs g) k (count_below c a))

-- ---- flags

below_test : (k : ℕ) → k < 32 → nat_lt k 32 ≡ true
below_test k h = grind (arith, nat_tests)

at_most : (k : ℕ) → k < 32 → k ≤ 32
at_most k h = omega arith

double_carry_gives : (left : Bool) (a : Step) (x : ℕ) (c : Count) (v : Names) → x < 2 ^ 32 → 0 < count_of c a → Taken a x v
    → Gives (flag_if (double_out left x (count_of c a))) (double_carry_word left c) v
double_carry_gives true a x c v l some h =
    let k : ℕ = count_of c a in
    subst (λ b. Gives b (double_carry_word true c) v)
    (ap (λ t. where_true t (nat_eq (x * 2 ^ k / 2 ^ 32 % 2) 1)) (below_test k (count_below c a)) ∙ ap flag_if (sym (left_out x 32 k (at_most k (count_below c a)))))
    (left_gives W a x c l v h some)
double_carry_gives false a x c v l some h =
    let k : ℕ = count_of c a in
    subst (λ b. Gives b (double_carry_word false c) v) (ap (λ t. where_true t (nat_eq (x / 2 ^ (k - 1) % 2) 1)) (below_test k (count_below c a))) (right_gives W a x c l v h some)

double_given : (left : Bool) (a : Step) (x g : ℕ) (c : Count) → x < 2 ^ 32 → reg_of a.regs g < 2 ^ 32
    → GiveShift a x (double_value left x (reg_of a.regs g) (count_of c a)) false W c (double_word left g c) (double_carry_word left c) (over_word Shl W)
    (double_flags left x (reg_of a.regs g) (count_of c a))
double_given left a x g c l m =
    let y : ℕ = reg_of a.regs g in
    let k : ℕ = count_of c a in
    let r : ℕ = double_value left x y k in
    let b : Bool = differ (sign_bit 32 r) (sign_bit 32 x) in
    record {
      result = λ u t. double_word_is left a x g c u t;
      fits = double_fits left x y k;
      none = λ z. ap (double_value left x y) (is_zero k z) ∙ double_none_is left x y l m;
      flags = λ z. record {
        carry = λ v h. double_carry_gives left a x c v l (not_zero k z) h.taken;
        over = λ v h. gives_where (nat_eq k 1) b b (over_word Shl W) v (tops_differ W a x c l r v (double_fits left x y k) h) (λ t. refl);
        result = λ e v h. are_by_result W r _ _ a x v (double_fits left x y k) h;
      };
      only_one = λ e. ap (λ t. where_true t b) e;
      kept = λ e. absurd cc;
    }

-- SHLD and SHRD
pub double_goes : (left : Bool) (d : Operand) (g : ℕ) (c : Count) (next : ℕ) → GoesOn (i.DShift left d g c) next (double_stmts left d g c)
double_goes left d g c next = by_step (i.DShift left d g c) next (double_stmts left d g c) (λ a. refl) (λ a w b.
    all_counted (i.DShift left d g c) a w b false W d c (double_word left g c) (double_carry_word left c) (over_word Shl W)
    (double_value left (value_of W d a) (reg_of a.regs g) (count_of c a)) (double_flags left (value_of W d a) (reg_of a.regs g) (count_of c a)) b.first
    (double_given left a (value_of W d a) g c (value_fits a w.names b.names b.shows W d) (subst (λ r. reg_of r g < 2 ^ 32) b.shows.regs (reg_fits w.names b.names g))) (is_none c) refl)
