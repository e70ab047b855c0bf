-- The values of the words that lifting is made of, from the values of their parts.
use Rattle.std.proofs.Common.{◌≡◌, ℕ, ◌-◌, ◌/◌, ◌^◌, ◌<◌, Bool, true, false, not, nat_eq, nat_lt, ◌&&◌, ◌||◌, bit_and, arith, refl, ap, sym, ◌∙◌, Some}
use Rattle.std.specs.Prelude.{bit_xor}
use Rattle.std.proofs.lemmas.Nat.{and_mask, and_shr, xor_shr}
use Rattle.std.proofs.lemmas.Bool.Decides.{nat_tests}
use Rattle.std.proofs.Math.Nat.{mod-eq_of_lt}
use Rattle.dream_words.specs.declared.machine.Name.TheVariants.{Flag}
use Rattle.dream_words.specs.Words.{IsSize, low_part, sign_bit, bit_of}
use Rattle.dream_words.specs.Signed.{differ}
use Rattle.run_parts.specs.World.{Names}
use Rattle.c_syntax.specs.declared.syntax.CBin.{CBin}
use Rattle.c_syntax.specs.declared.syntax.CBin.TheVariants.{And, Xor, Shr}
use Rattle.c_syntax.specs.declared.syntax.CCmp.{CCmp}
use Rattle.c_syntax.specs.declared.syntax.CCmp.TheVariants.{Eq, Ne, Lt}
use Rattle.c_syntax.specs.declared.syntax.CFn1.{CFn1}
use Rattle.c_syntax.specs.declared.syntax.CExpr.{CExpr}
use Rattle.c_syntax.specs.declared.syntax.CCond.{CCond}
use Rattle.c_syntax.specs.Value.{word_of, truth_of}
use Rattle.c_syntax.specs.Words.{bin_of, cmp_of, fn1_of}
use Rattle.c_words.specs.Built.{num, name, bin, fn1, cmp, and, or, word_if}
use Rattle.c_words.proofs.Layers.{word_layer, truth_layer}
use Rattle.lift_alu.specs.Words.{low_word, top_word, flag_set, below_word, below_with_carry_word, overflow_word, zero_word}
use Rattle.lift_alu.proofs.Sizes.{by_size}
use Rattle.lift_alu.proofs.Signs.{signs_differ_twice}

-- ---- top bits

top_of : (bits x : ℕ) → IsSize bits → x < 2 ^ bits → x / 2 ^ (bits - 1) ≡ bit_of (sign_bit bits x)
top_of bits x size =
    by_size (λ n. x < 2 ^ n → x / 2 ^ (n - 1) ≡ bit_of (sign_bit n x)) (λ h. grind (arith, nat_tests)) (λ h. grind (arith, nat_tests)) (λ h. grind (arith, nat_tests)) bits size

xor_of_bits : (a b : Bool) → bit_xor (bit_of a) (bit_of b) ≡ bit_of (differ a b)
xor_of_bits true true = refl
xor_of_bits true false = refl
xor_of_bits false true = refl
xor_of_bits false false = refl

and_of_bits : (a b : Bool) → bit_and (bit_of a) (bit_of b) ≡ bit_of (a && b)
and_of_bits true true = refl
and_of_bits true false = refl
and_of_bits false true = refl
and_of_bits false false = refl

tops_differ : (k w x y z : ℕ) (a b c d : Bool) → w / 2 ^ k ≡ bit_of a → x / 2 ^ k ≡ bit_of b → y / 2 ^ k ≡ bit_of c → z / 2 ^ k ≡ bit_of d
    → bit_and (bit_xor w x) (bit_xor y z) / 2 ^ k ≡ bit_of (differ a b && differ c d)
tops_differ k w x y z a b c d e f g h =
    and_shr (bit_xor w x) (bit_xor y z) k
    ∙ rw (xor_shr w x k, xor_shr y z k, e, f, g, h, xor_of_bits a b, xor_of_bits c d) (and_of_bits (differ a b) (differ c d))

module _ (v : Names) where
  -- ---- one layer

  pub num_value : (n : ℕ) → word_of (num n) v ≡ Some n
  num_value n = simp word_layer

  pub name_value : (n : ℕ) → word_of (name (Flag n)) v ≡ Some (v (Flag n))
  name_value n = simp word_layer

  pub bin_value : (op : CBin) (a b : CExpr) (x y : ℕ) → word_of a v ≡ Some x → word_of b v ≡ Some y → word_of (bin op a b) v ≡ bin_of op x y
  bin_value op a b x y h k = simp (word_layer, h, k)

  pub fn1_value : (f : CFn1) (a : CExpr) (x : ℕ) → word_of a v ≡ Some x → word_of (fn1 f a) v ≡ Some (fn1_of f x)
  fn1_value f a x h = simp (word_layer, h)

  pub cmp_value : (op : CCmp) (a b : CExpr) (x y : ℕ) → word_of a v ≡ Some x → word_of b v ≡ Some y → truth_of (cmp op a b) v ≡ Some (cmp_of op x y)
  cmp_value op a b x y h k = simp (truth_layer, h, k)

  pub and_value : (t u : CCond) (p q : Bool) → truth_of t v ≡ Some p → truth_of u v ≡ Some q → truth_of (and t u) v ≡ Some (p && q)
  and_value t u true q h k = simp (truth_layer, h, k)
  and_value t u false q h k = simp (truth_layer, h, k)

  pub or_value : (t u : CCond) (p q : Bool) → truth_of t v ≡ Some p → truth_of u v ≡ Some q → truth_of (or t u) v ≡ Some (p || q)
  or_value t u true q h k = simp (truth_layer, h, k)
  or_value t u false q h k = simp (truth_layer, h, k)

  pub word_if_value : (t : CCond) (p : Bool) → truth_of t v ≡ Some p → word_of (word_if t) v ≡ Some (bit_of p)
  word_if_value t true h = simp (word_layer, h)
  word_if_value t false h = simp (word_layer, h)

  -- ---- parts of operations

  pub low_value : (bits : ℕ) (e : CExpr) (x : ℕ) → IsSize bits → word_of e v ≡ Some x → x < 2 ^ 32 → word_of (low_word bits e) v ≡ Some (low_part bits x)
  low_value bits e x size h small =
      by_size (λ n. word_of (low_word n e) v ≡ Some (low_part n x))
      (bin_value And e (num (2 ^ 8 - 1)) x (2 ^ 8 - 1) h (num_value (2 ^ 8 - 1)) ∙ ap Some (and_mask x 8))
      (bin_value And e (num (2 ^ 16 - 1)) x (2 ^ 16 - 1) h (num_value (2 ^ 16 - 1)) ∙ ap Some (and_mask x 16))
      (h ∙ ap Some (sym (mod-eq_of_lt small)))
      bits size

  -- a word shifted to its top bit
  shifted : (bits : ℕ) (e : CExpr) (x : ℕ) → IsSize bits → word_of e v ≡ Some x → word_of (top_word bits e) v ≡ Some (x / 2 ^ (bits - 1))
  shifted bits e x size h =
      by_size (λ n. word_of (top_word n e) v ≡ Some (x / 2 ^ (n - 1)))
      (bin_value Shr e (num 7) x 7 h (num_value 7)) (bin_value Shr e (num 15) x 15 h (num_value 15)) (bin_value Shr e (num 31) x 31 h (num_value 31))
      bits size

  pub top_value : (bits : ℕ) (e : CExpr) (x : ℕ) → IsSize bits → word_of e v ≡ Some x → x < 2 ^ bits → word_of (top_word bits e) v ≡ Some (bit_of (sign_bit bits x))
  top_value bits e x size h small = shifted bits e x size h ∙ ap Some (top_of bits x size small)

  pub zero_value : (e : CExpr) (x : ℕ) → word_of e v ≡ Some x → word_of (zero_word e) v ≡ Some (bit_of (nat_eq x 0))
  zero_value e x h = word_if_value (cmp Eq e (num 0)) (nat_eq x 0) (cmp_value Eq e (num 0) x 0 h (num_value 0))

  pub set_value : (n : ℕ) → truth_of (flag_set n) v ≡ Some (not (nat_eq (v (Flag n)) 0))
  set_value n = cmp_value Ne (name (Flag n)) (num 0) (v (Flag n)) 0 (name_value n) (num_value 0)

  pub below_value : (a b : CExpr) (x y : ℕ) → word_of a v ≡ Some x → word_of b v ≡ Some y → word_of (below_word a b) v ≡ Some (bit_of (nat_lt x y))
  below_value a b x y h k = word_if_value (cmp Lt a b) (nat_lt x y) (cmp_value Lt a b x y h k)

  pub below_with_carry_value : (a b : CExpr) (x y : ℕ) → word_of a v ≡ Some x → word_of b v ≡ Some y
      → word_of (below_with_carry_word a b) v ≡ Some (bit_of (nat_lt x y || (nat_eq x y && not (nat_eq (v (Flag 0)) 0))))
  below_with_carry_value a b x y h k =
      word_if_value (or (cmp Lt a b) (and (cmp Eq a b) (flag_set 0))) (nat_lt x y || (nat_eq x y && not (nat_eq (v (Flag 0)) 0)))
      (or_value (cmp Lt a b) (and (cmp Eq a b) (flag_set 0)) (nat_lt x y) (nat_eq x y && not (nat_eq (v (Flag 0)) 0)) (cmp_value Lt a b x y h k)
      (and_value (cmp Eq a b) (flag_set 0) (nat_eq x y) (not (nat_eq (v (Flag 0)) 0)) (cmp_value Eq a b x y h k) (set_value 0)))

  pub overflow_value : (bits : ℕ) (a b c d : CExpr) (w x y z : ℕ) → IsSize bits → word_of a v ≡ Some w → word_of b v ≡ Some x → word_of c v ≡ Some y → word_of d v ≡ Some z
      → w < 2 ^ bits → x < 2 ^ bits → y < 2 ^ bits → z < 2 ^ bits → word_of (overflow_word bits a b c d) v ≡ Some (bit_of (signs_differ_twice bits w x y z))
  overflow_value bits a b c d w x y z size h i j k p q r s =
      shifted bits (bin And (bin Xor a b) (bin Xor c d)) (bit_and (bit_xor w x) (bit_xor y z)) size
      (bin_value And (bin Xor a b) (bin Xor c d) (bit_xor w x) (bit_xor y z) (bin_value Xor a b w x h i) (bin_value Xor c d y z j k))
      ∙ ap Some (tops_differ (bits - 1) w x y z (sign_bit bits w) (sign_bit bits x) (sign_bit bits y) (sign_bit bits z)
      (top_of bits w size p) (top_of bits x size q) (top_of bits y size r) (top_of bits z size s))
