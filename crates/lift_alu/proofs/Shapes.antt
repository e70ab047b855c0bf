-- The words of operations and the conditions keep the rule of flows: how deep they are, and which names they have.
use Rattle.std.proofs.Common.{◌≡◌, ℕ, ◌+◌, ◌%◌, ◌^◌, ◌<◌, ◌≤◌, max, Bool, true, false, nat_le, nat_lt, nat_eq, ◌&&◌, cond, arith, refl, lit<, lit≤}
use Rattle.std.specs.Prelude.{IsTrue}
use Rattle.std.proofs.lemmas.Bool.Decides.{nat_tests}
use Rattle.dream_words.specs.declared.machine.Name.TheVariants.{Flag}
use Rattle.dream_words.specs.Words.{IsSize}
use Rattle.x86_inst.specs.declared.AluOp.{AluOp}
use Rattle.x86_inst.specs.declared.AluOp.TheVariants as op
use Rattle.c_syntax.specs.declared.syntax.CBin.{CBin}
use Rattle.c_syntax.specs.declared.syntax.CBin.TheVariants.{Add, Sub, And, Or, Xor, Shr}
use Rattle.c_syntax.specs.declared.syntax.CCmp.{CCmp}
use Rattle.c_syntax.specs.declared.syntax.CCmp.TheVariants.{Eq, Ne, Lt}
use Rattle.c_syntax.specs.declared.syntax.CExpr as e
use Rattle.c_syntax.specs.declared.syntax.CExpr.{CExpr, CExpr-F, roll-CExpr}
use Rattle.c_syntax.specs.declared.syntax.CCond as c
use Rattle.c_syntax.specs.declared.syntax.CCond.{CCond, CCond-F, roll-CCond}
use Rattle.c_syntax.specs.Depth.{word_depth, cond_depth}
use Rattle.c_syntax.specs.Formed.{cond_names}
use Rattle.c_words.specs.Built.{num, name, bin, cmp, and, or, word_if}
use Rattle.c_words.proofs.Layers.{word_depth_layer, cond_depth_layer}
use Rattle.micro_ir.specs.Rule.{word_names, has_flow_names, cond_has_flow_names, is_flow_word, is_flow_cond}
use Rattle.lift_alu.specs.declared.alu.AluLift.{AluLift}
use Rattle.lift_alu.specs.Words.{low_word, top_word, even_word, zero_word, flag_set, flag_clear, below_word, below_with_carry_word, overflow_word, six_words, sum_words, difference_words, add_words, adc_words, sub_words, sbb_words, logic_words, part_words, alu_words, row_words, cond_words}
use Rattle.lift_alu.proofs.Sizes.{by_size}

-- the names at a layer, from those of its parts
pub word_names_layer : (y : CExpr-F CCond CExpr) → has_flow_names (roll-CExpr y) ≡ word_names (e.map-CExpr CCond CExpr Bool Bool cond_has_flow_names has_flow_names y)
word_names_layer y = e.fold-roll-CExpr Bool Bool cond_names word_names y

pub cond_names_layer : (y : CCond-F CCond CExpr) → cond_has_flow_names (roll-CCond y) ≡ cond_names (c.map-CCond CCond CExpr Bool Bool cond_has_flow_names has_flow_names y)
cond_names_layer y = c.fold-roll-CCond Bool Bool cond_names word_names y

-- a Word and a Cond at most so deep, with numbers and names of a flow
pub record IsWithin (depth : ℕ) (w : CExpr) : Type 0 where
  pub deep : word_depth w ≤ depth
  pub names : IsTrue (has_flow_names w)

pub record CondWithin (depth : ℕ) (t : CCond) : Type 0 where
  pub deep : cond_depth t ≤ depth
  pub names : IsTrue (cond_has_flow_names t)

-- the same of each of the six words
pub record AreWithin (depth : ℕ) (l : AluLift) : Type 0 where
  pub result : IsWithin depth l.result
  pub c : IsWithin depth l.c
  pub p : IsWithin depth l.p
  pub z : IsWithin depth l.z
  pub s : IsWithin depth l.s
  pub o : IsWithin depth l.o

both_hold : (p q : Bool) → IsTrue p → IsTrue q → IsTrue (p && q)
both_hold true q h k = k
both_hold false q h k = h

-- where they are at most 64 deep, they are those of a flow
pub flow_word : (depth : ℕ) (w : CExpr) → depth ≤ 64 → IsWithin depth w → IsTrue (is_flow_word w)
flow_word depth w h k =
    let d : word_depth w ≤ depth = k.deep in
    let t : nat_le (word_depth w) 64 ≡ true = grind (arith, nat_tests) in
    both_hold (has_flow_names w) (nat_le (word_depth w) 64) k.names t

pub flow_cond : (depth : ℕ) (t : CCond) → depth ≤ 64 → CondWithin depth t → IsTrue (is_flow_cond t)
flow_cond depth t h k =
    let d : cond_depth t ≤ depth = k.deep in
    let e : nat_le (cond_depth t) 64 ≡ true = grind (arith, nat_tests) in
    both_hold (cond_has_flow_names t) (nat_le (cond_depth t) 64) k.names e

-- ---- one layer

under : (a b d : ℕ) → a ≤ d → b ≤ d → max a b + 1 ≤ d + 1
under a b d h k = omega arith

one_under : (a d : ℕ) → a ≤ d → a + 1 ≤ d + 1
one_under a d h = omega arith

picked_under : (a d : ℕ) → 1 ≤ d → a ≤ d → max a (max 1 1) + 1 ≤ d + 1
picked_under a d l h = omega arith

below_test : (n k : ℕ) → n < k → nat_lt n k ≡ true
below_test n k h = grind (arith, nat_tests)

pub deeper : (d k : ℕ) (w : CExpr) → d ≤ k → IsWithin d w → IsWithin k w
deeper d k w h p = let q : word_depth w ≤ d = p.deep in record { deep = omega arith; names = p.names }

cond_deeper : (d k : ℕ) (t : CCond) → d ≤ k → CondWithin d t → CondWithin k t
cond_deeper d k t h p = let q : cond_depth t ≤ d = p.deep in record { deep = omega arith; names = p.names }

pub num_within : (d n : ℕ) → 1 ≤ d → n < 2 ^ 32 → IsWithin d (num n)
num_within d n h k = record { deep = simp word_depth_layer h; names = simp word_names_layer (below_test n (2 ^ 32) k) }

pub flag_within : (d n : ℕ) → 1 ≤ d → n < 5 → IsWithin d (name (Flag n))
flag_within d n h k = record { deep = simp word_depth_layer h; names = simp word_names_layer (below_test n 5 k) }

pub bin_within : (d : ℕ) (f : CBin) (a b : CExpr) → IsWithin d a → IsWithin d b → IsWithin (d + 1) (bin f a b)
bin_within d f a b h k = record { deep = simp word_depth_layer (under (word_depth a) (word_depth b) d h.deep k.deep); names = simp word_names_layer (both_hold (has_flow_names a) (has_flow_names b) h.names k.names) }

even_within : (d : ℕ) (a : CExpr) → IsWithin d a → IsWithin (d + 1) (even_word a)
even_within d a h = let p : word_depth a ≤ d = h.deep in record { deep = simp word_depth_layer (one_under (word_depth a) d p); names = simp word_names_layer h.names }

pub cmp_within : (d : ℕ) (f : CCmp) (a b : CExpr) → IsWithin d a → IsWithin d b → CondWithin (d + 1) (cmp f a b)
cmp_within d f a b h k = record { deep = simp cond_depth_layer (under (word_depth a) (word_depth b) d h.deep k.deep); names = simp cond_names_layer (both_hold (has_flow_names a) (has_flow_names b) h.names k.names) }

and_within : (d : ℕ) (t u : CCond) → CondWithin d t → CondWithin d u → CondWithin (d + 1) (and t u)
and_within d t u h k = record { deep = simp cond_depth_layer (under (cond_depth t) (cond_depth u) d h.deep k.deep); names = simp cond_names_layer (both_hold (cond_has_flow_names t) (cond_has_flow_names u) h.names k.names) }

or_within : (d : ℕ) (t u : CCond) → CondWithin d t → CondWithin d u → CondWithin (d + 1) (or t u)
or_within d t u h k = record { deep = simp cond_depth_layer (under (cond_depth t) (cond_depth u) d h.deep k.deep); names = simp cond_names_layer (both_hold (cond_has_flow_names t) (cond_has_flow_names u) h.names k.names) }

pub word_if_within : (d : ℕ) (t : CCond) → 1 ≤ d → CondWithin d t → IsWithin (d + 1) (word_if t)
word_if_within d t l h = record { deep = simp word_depth_layer (picked_under (cond_depth t) d l h.deep); names = simp word_names_layer (both_hold (cond_has_flow_names t) true h.names refl) }

-- ---- parts of operations

module _ (bits : ℕ) (size : IsSize bits) where
  low_within : (d : ℕ) (w : CExpr) → 1 ≤ d → IsWithin d w → IsWithin (d + 1) (low_word bits w)
  low_within d w l h =
      by_size (λ n. IsWithin (d + 1) (low_word n w))
      (bin_within d And w (num 255) h (num_within d 255 l (lit< tt))) (bin_within d And w (num 65535) h (num_within d 65535 l (lit< tt))) (deeper d (d + 1) w (omega arith) h)
      bits size

  top_within : (d : ℕ) (w : CExpr) → 1 ≤ d → IsWithin d w → IsWithin (d + 1) (top_word bits w)
  top_within d w l h =
      by_size (λ n. IsWithin (d + 1) (top_word n w))
      (bin_within d Shr w (num 7) h (num_within d 7 l (lit< tt))) (bin_within d Shr w (num 15) h (num_within d 15 l (lit< tt))) (bin_within d Shr w (num 31) h (num_within d 31 l (lit< tt)))
      bits size

  module _ (d : ℕ) (some : 1 ≤ d) where
    overflow_within : (a b c e : CExpr) → IsWithin d a → IsWithin d b → IsWithin d c → IsWithin d e → IsWithin (d + 1 + 1 + 1) (overflow_word bits a b c e)
    overflow_within a b c e h i j k =
        top_within (d + 1 + 1) (bin And (bin Xor a b) (bin Xor c e)) (omega arith)
        (bin_within (d + 1) And (bin Xor a b) (bin Xor c e) (bin_within d Xor a b h i) (bin_within d Xor c e j k))

    below_within : (a b : CExpr) → IsWithin d a → IsWithin d b → IsWithin (d + 1 + 1) (below_word a b)
    below_within a b h k = word_if_within (d + 1) (cmp Lt a b) (omega arith) (cmp_within d Lt a b h k)

    below_with_carry_within : (a b : CExpr) → IsWithin d a → IsWithin d b → IsWithin (d + 4) (below_with_carry_word a b)
    below_with_carry_within a b h k =
        let carried : CondWithin (d + 1 + 1) (and (cmp Eq a b) (flag_set 0)) =
        and_within (d + 1) (cmp Eq a b) (flag_set 0) (cmp_within d Eq a b h k) (cmp_within d Ne (name (Flag 0)) (num 0) (flag_within d 0 some (lit< tt)) (num_within d 0 some (lit< tt))) in
        let less : CondWithin (d + 1 + 1) (cmp Lt a b) = cond_deeper (d + 1) (d + 1 + 1) (cmp Lt a b) (omega arith) (cmp_within d Lt a b h k) in
        deeper (d + 1 + 1 + 1 + 1) (d + 4) (below_with_carry_word a b) (omega arith)
        (word_if_within (d + 1 + 1 + 1) (or (cmp Lt a b) (and (cmp Eq a b) (flag_set 0))) (omega arith) (or_within (d + 1 + 1) (cmp Lt a b) (and (cmp Eq a b) (flag_set 0)) less carried))

    six_within : (r c o : CExpr) → IsWithin d r → IsWithin (d + 4) c → IsWithin (d + 4) o → AreWithin (d + 4) (six_words bits r c o)
    six_within r c o h i j = record {
      result = deeper d (d + 4) r (omega arith) h;
      c = i;
      p = deeper (d + 1) (d + 4) (even_word r) (omega arith) (even_within d r h);
      z = deeper (d + 1 + 1) (d + 4) (zero_word r) (omega arith) (word_if_within (d + 1) (cmp Eq r (num 0)) (omega arith) (cmp_within d Eq r (num 0) h (num_within d 0 some (lit< tt))));
      s = deeper (d + 1) (d + 4) (top_word bits r) (omega arith) (top_within d r some h);
      o = j;
    }

  -- ---- the operations

  module _ (d : ℕ) (some : 1 ≤ d) (x y : CExpr) (x_within : IsWithin (d + 1) x) (y_within : IsWithin (d + 1) y) where
    -- an operand of the comparisons and of the overflow
    at_most : (w : CExpr) → IsWithin (d + 1) w → IsWithin (d + 4) w
    at_most w h = deeper (d + 1) (d + 4) w (omega arith) h

    module _ (f : CBin) where
      joined_within : IsWithin (d + 1 + 1) (bin f x y)
      joined_within = bin_within (d + 1) f x y x_within y_within

      low_joined_within : IsWithin (d + 4) (low_word bits (bin f x y))
      low_joined_within = deeper (d + 1 + 1 + 1) (d + 4) (low_word bits (bin f x y)) (omega arith) (low_within (d + 1 + 1) (bin f x y) (omega arith) joined_within)

      low_joined_with_carry_within : IsWithin (d + 4) (low_word bits (bin f (bin f x y) (name (Flag 0))))
      low_joined_with_carry_within =
          deeper (d + 1 + 1 + 1 + 1) (d + 4) (low_word bits (bin f (bin f x y) (name (Flag 0)))) (omega arith)
          (low_within (d + 1 + 1 + 1) (bin f (bin f x y) (name (Flag 0))) (omega arith)
          (bin_within (d + 1 + 1) f (bin f x y) (name (Flag 0)) joined_within (flag_within (d + 1 + 1) 0 (omega arith) (lit< tt))))

      logic_within : AreWithin (d + 4 + 4) (logic_words f bits x y)
      logic_within =
          six_within (d + 4) (omega arith) (bin f x y) (num 0) (num 0) (deeper (d + 1 + 1) (d + 4) (bin f x y) (omega arith) joined_within)
          (num_within (d + 4 + 4) 0 (omega arith) (lit< tt)) (num_within (d + 4 + 4) 0 (omega arith) (lit< tt))

    sum_within : (r c : CExpr) → IsWithin (d + 4) r → IsWithin (d + 4 + 4) c → AreWithin (d + 4 + 4) (sum_words bits x y r c)
    sum_within r c h k =
        six_within (d + 4) (omega arith) r c (overflow_word bits x r y r) h k
        (deeper (d + 4 + 1 + 1 + 1) (d + 4 + 4) (overflow_word bits x r y r) (omega arith) (overflow_within (d + 4) (omega arith) x r y r (at_most x x_within) h (at_most y y_within) h))

    difference_within : (r c : CExpr) → IsWithin (d + 4) r → IsWithin (d + 4 + 4) c → AreWithin (d + 4 + 4) (difference_words bits x y r c)
    difference_within r c h k =
        six_within (d + 4) (omega arith) r c (overflow_word bits x y x r) h k
        (deeper (d + 4 + 1 + 1 + 1) (d + 4 + 4) (overflow_word bits x y x r) (omega arith) (overflow_within (d + 4) (omega arith) x y x r (at_most x x_within) (at_most y y_within) (at_most x x_within) h))

    less_within : (a b : CExpr) → IsWithin (d + 4) a → IsWithin (d + 4) b → IsWithin (d + 4 + 4) (below_word a b)
    less_within a b h k = deeper (d + 4 + 1 + 1) (d + 4 + 4) (below_word a b) (omega arith) (below_within (d + 4) (omega arith) a b h k)

    less_with_carry_within : (a b : CExpr) → IsWithin (d + 4) a → IsWithin (d + 4) b → IsWithin (d + 4 + 4) (below_with_carry_word a b)
    less_with_carry_within a b h k = below_with_carry_within (d + 4) (omega arith) a b h k

    add_within : AreWithin (d + 4 + 4) (add_words bits x y)
    add_within =
        sum_within (low_word bits (bin Add x y)) (below_word (low_word bits (bin Add x y)) x) (low_joined_within Add) (less_within (low_word bits (bin Add x y)) x (low_joined_within Add) (at_most x x_within))

    adc_within : AreWithin (d + 4 + 4) (adc_words bits x y)
    adc_within =
        sum_within (low_word bits (bin Add (bin Add x y) (name (Flag 0)))) (below_with_carry_word (low_word bits (bin Add (bin Add x y) (name (Flag 0)))) x) (low_joined_with_carry_within Add)
        (less_with_carry_within (low_word bits (bin Add (bin Add x y) (name (Flag 0)))) x (low_joined_with_carry_within Add) (at_most x x_within))

    sub_within : AreWithin (d + 4 + 4) (sub_words bits x y)
    sub_within = difference_within (low_word bits (bin Sub x y)) (below_word x y) (low_joined_within Sub) (less_within x y (at_most x x_within) (at_most y y_within))

    sbb_within : AreWithin (d + 4 + 4) (sbb_words bits x y)
    sbb_within =
        difference_within (low_word bits (bin Sub (bin Sub x y) (name (Flag 0)))) (below_with_carry_word x y) (low_joined_with_carry_within Sub)
        (less_with_carry_within x y (at_most x x_within) (at_most y y_within))

    part_within : (op : AluOp) → AreWithin (d + 4 + 4) (part_words op bits x y)
    part_within op.Add = add_within
    part_within op.Or = logic_within Or
    part_within op.Adc = adc_within
    part_within op.Sbb = sbb_within
    part_within op.And = logic_within And
    part_within op.Sub = sub_within
    part_within op.Xor = logic_within Xor
    part_within op.Cmp = sub_within

pub all_deeper : (d k : ℕ) (l : AluLift) → d ≤ k → AreWithin d l → AreWithin k l
all_deeper d k l h w = record {
  result = deeper d k l.result h w.result;
  c = deeper d k l.c h w.c;
  p = deeper d k l.p h w.p;
  z = deeper d k l.z h w.z;
  s = deeper d k l.s h w.s;
  o = deeper d k l.o h w.o;
}

-- each of the six words is at most 8 deeper than the operands, and has names of a flow where they have
pub alu_within : (op : AluOp) (bits : ℕ) (a b : CExpr) (d : ℕ) → IsSize bits → 1 ≤ d → IsWithin d a → IsWithin d b → AreWithin (d + 8) (alu_words op bits a b)
alu_within op bits a b d size some h k =
    all_deeper (d + 4 + 4) (d + 8) (alu_words op bits a b) (omega arith)
    (part_within bits size d some (low_word bits a) (low_word bits b) (low_within bits size d a some h) (low_within bits size d b some k) op)

-- ---- conditions

if_within : (b : Bool) (t u : CCond) → CondWithin 3 t → CondWithin 3 u → CondWithin 3 (cond b t u)
if_within true t u h k = h
if_within false t u h k = k

set_within : (n : ℕ) → n < 5 → CondWithin 2 (flag_set n)
set_within n h = cmp_within 1 Ne (name (Flag n)) (num 0) (flag_within 1 n (lit≤ tt) h) (num_within 1 0 (lit≤ tt) (lit< tt))

clear_within : (n : ℕ) → n < 5 → CondWithin 2 (flag_clear n)
clear_within n h = cmp_within 1 Eq (name (Flag n)) (num 0) (flag_within 1 n (lit≤ tt) h) (num_within 1 0 (lit≤ tt) (lit< tt))

signs_within : (f : CCmp) → CondWithin 2 (cmp f (name (Flag 3)) (name (Flag 4)))
signs_within f = cmp_within 1 f (name (Flag 3)) (name (Flag 4)) (flag_within 1 3 (lit≤ tt) (lit< tt)) (flag_within 1 4 (lit≤ tt) (lit< tt))

one_test : (t : CCond) → CondWithin 2 t → CondWithin 3 t
one_test t h = cond_deeper 2 3 t (lit≤ tt) h

row_within : (n : ℕ) → CondWithin 3 (row_words n)
row_within n =
    if_within (nat_eq n 0) _ _ (one_test _ (set_within 4 (lit< tt)))
    (if_within (nat_eq n 1) _ _ (one_test _ (clear_within 4 (lit< tt)))
    (if_within (nat_eq n 2) _ _ (one_test _ (set_within 0 (lit< tt)))
    (if_within (nat_eq n 3) _ _ (one_test _ (clear_within 0 (lit< tt)))
    (if_within (nat_eq n 4) _ _ (one_test _ (set_within 2 (lit< tt)))
    (if_within (nat_eq n 5) _ _ (one_test _ (clear_within 2 (lit< tt)))
    (if_within (nat_eq n 6) _ _ (or_within 2 _ _ (set_within 0 (lit< tt)) (set_within 2 (lit< tt)))
    (if_within (nat_eq n 7) _ _ (and_within 2 _ _ (clear_within 0 (lit< tt)) (clear_within 2 (lit< tt)))
    (if_within (nat_eq n 8) _ _ (one_test _ (set_within 3 (lit< tt)))
    (if_within (nat_eq n 9) _ _ (one_test _ (clear_within 3 (lit< tt)))
    (if_within (nat_eq n 10) _ _ (one_test _ (set_within 1 (lit< tt)))
    (if_within (nat_eq n 11) _ _ (one_test _ (clear_within 1 (lit< tt)))
    (if_within (nat_eq n 12) _ _ (one_test _ (signs_within Ne))
    (if_within (nat_eq n 13) _ _ (one_test _ (signs_within Eq))
    (if_within (nat_eq n 14) _ _ (or_within 2 _ _ (set_within 2 (lit< tt)) (signs_within Ne))
    (and_within 2 _ _ (clear_within 2 (lit< tt)) (signs_within Eq))))))))))))))))

-- a condition is at most 3 deep, and has names of a flow
pub cond_within : (n : ℕ) → CondWithin 3 (cond_words n)
cond_within n = row_within (n % 16)
