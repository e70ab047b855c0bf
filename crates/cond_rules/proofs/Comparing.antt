-- The sign and the overflow of a difference, and the sign of a low part: signed comparisons.
use Rattle.std.proofs.Common.{◌≡◌, ℕ, ◌+◌, ◌-◌, ◌/◌, ◌%◌, ◌^◌, ◌<◌, ◌≤◌, Bool, true, false, not, ◌&&◌, nat_eq, nat_le, ℤ, pos, ◌-ℤ◌, bit_and, Option, Some, None, refl, sym, ap, ◌∙◌, subst, arith, lit<, int_lt}
use Rattle.std.specs.Prelude.{IsTrue, bit_xor, if◌then◌else◌}
use Rattle.std.proofs.lemmas.Nat.{and_mask, mod_below}
use Rattle.std.proofs.lemmas.Bool.Decides.{nat_tests}
use Rattle.dream_words.specs.declared.machine.Width.{Width}
use Rattle.dream_words.specs.declared.machine.Width.TheVariants.{B, H, W}
use Rattle.dream_words.specs.Words.{bit_of, low_part, signed_part, sign_extended, word_of as taken_to}
use Rattle.run_parts.specs.World.{Names}
use Rattle.c_syntax.specs.declared.syntax.CBin.TheVariants.{Sub, And, Xor, Shr}
use Rattle.c_syntax.specs.declared.syntax.CCmp.{CCmp}
use Rattle.c_syntax.specs.declared.syntax.CCmp.TheVariants.{Eq, Ne, Lt, Le}
use Rattle.c_syntax.specs.declared.syntax.CFn1.{CFn1}
use Rattle.c_syntax.specs.declared.syntax.CFn1.TheVariants.{Sx1, Sx2}
use Rattle.c_syntax.specs.declared.syntax.CFn2.TheVariants.{Lts}
use Rattle.c_syntax.specs.declared.syntax.CExpr.{CExpr}
use Rattle.c_syntax.specs.declared.syntax.CCond.{CCond}
use Rattle.c_syntax.specs.Words.{bin_of, cmp_of, fn1_of}
use Rattle.c_syntax.specs.Value.{each, both, word_of}
use Rattle.c_words.specs.Built.{num, bin, fn1, cmp}
use Rattle.micro_ir.specs.Rule.{has_flow_names}
use Rattle.micro_ir.proofs.Values.{both_true}
use Rattle.word_rules.specs.Parts.{word_parts, cond_parts}
use Rattle.word_rules.specs.Standing.{AreWords, ForWord, ForCond}
use Rattle.word_rules.proofs.Congruence.{word_self, cmp_stands, fn2_stands, cond_chain}
use Rattle.word_rules.proofs.Layers as l
use Rattle.cond_rules.specs.Widths.{bits_at, low_of, top_of, signed_of, less_of, overflow_of, is_equality, IsWithin}
use Rattle.cond_rules.proofs.Tests.{Shape, Test, Has, NeedsBoth, NeedsFirst, truth_by, two_for, one_for}
use Rattle.cond_rules.proofs.Tests.Shape.{first, second, number, joined, one, two}
use Rattle.cond_rules.proofs.Tests.Test.{test}
use Rattle.cond_rules.proofs.SignBits.{bit_is_0, sign_is_overflow_8, sign_is_overflow_16, sign_is_overflow_32, sign_8, sign_16, sign_32}

-- equal tests of equality
pub same_test : (op : CCmp) → IsTrue (is_equality op) → (x y z u : ℕ) → nat_eq x y ≡ nat_eq z u → cmp_of op x y ≡ cmp_of op z u
same_test Eq h x y z u e = e
same_test Ne h x y z u e = ap not e
same_test Lt h x y z u e = absurd (let n : ⊥ = cc in n)
same_test Le h x y z u e = absurd (let n : ⊥ = cc in n)

-- ---- the sign and the overflow of a difference

abbrev pub low_shape : Width → Shape → Shape
low_shape B s = joined And s (number 255)
low_shape H s = joined And s (number 65535)
low_shape W s = s

abbrev top_shape : Width → Shape → Shape
top_shape w s = joined Shr s (number (bits_at w - 1))

abbrev signed_shape : Width → Shape → Shape
signed_shape B s = one Sx1 s
signed_shape H s = one Sx2 s
signed_shape W s = s

abbrev sign_overflow : CCmp → Width → Test
sign_overflow op w =
    let r = low_shape w (joined Sub first second) in
    test op (top_shape w r) (top_shape w (joined And (joined Xor first second) (joined Xor first r)))

abbrev is_less : CCmp → Width → Test
is_less op w = test op (two Lts (signed_shape w first) (signed_shape w second)) (number 0)

module _ (op : CCmp) (h : IsTrue (is_equality op)) where
  less_law : (w : Width) (x y : ℕ) → x < 2 ^ bits_at w → y < 2 ^ bits_at w → truth_by (Some x) (Some y) (sign_overflow op w) ≡ truth_by (Some x) (Some y) (is_less op w)
  less_law B x y p q = ap Some (same_test op h _ _ _ _ (sign_is_overflow_8 x y p q))
  less_law H x y p q = ap Some (same_test op h _ _ _ _ (sign_is_overflow_16 x y p q))
  less_law W x y p q = ap Some (same_test op h _ _ _ _ (sign_is_overflow_32 x y p q))

  less_stands : (w : Width) (a b : CExpr) → IsWithin w a → IsWithin w b
      → ForCond (cmp op (top_of w (low_of w (bin Sub a b))) (overflow_of w a b (low_of w (bin Sub a b)))) (cmp op (less_of (signed_of w a) (signed_of w b)) (num 0))
  less_stands B a b p q =
      two_for (sign_overflow op B) (is_less op B) a b (λ x. x < 2 ^ 8) (λ x. x < 2 ^ 8) p q (record { first_value = λ o. refl; second_value = λ x. refl; first_name = λ n. refl; second_name = refl }) refl (omega arith) (less_law B)
  less_stands H a b p q =
      two_for (sign_overflow op H) (is_less op H) a b (λ x. x < 2 ^ 16) (λ x. x < 2 ^ 16) p q (record { first_value = λ o. refl; second_value = λ x. refl; first_name = λ n. refl; second_name = refl }) refl (omega arith) (less_law H)
  less_stands W a b p q =
      two_for (sign_overflow op W) (is_less op W) a b (λ x. x < 2 ^ 32) (λ x. x < 2 ^ 32) p q (record { first_value = λ o. refl; second_value = λ x. refl; first_name = λ n. refl; second_name = refl }) refl (omega arith) (less_law W)

  -- ---- the sign of a low part

  abbrev sign_test : Width → Test
  sign_test w = test op (top_shape w (low_shape w first)) (number 0)

  abbrev is_negative : Width → Test
  is_negative w = test op (two Lts (signed_shape w first) (number 0)) (number 0)

  negative_law : (w : Width) (x : ℕ) → x < 2 ^ 32 → truth_by (Some x) (Some x) (sign_test w) ≡ truth_by (Some x) (Some x) (is_negative w)
  negative_law B x p = ap Some (same_test op h _ _ _ _ (sign_8 x))
  negative_law H x p = ap Some (same_test op h _ _ _ _ (sign_16 x))
  negative_law W x p = ap Some (same_test op h _ _ _ _ (sign_32 x p))

  negative_stands : (w : Width) (a : CExpr) → ForCond (cmp op (top_of w (low_of w a)) (num 0)) (cmp op (less_of (signed_of w a) (num 0)) (num 0))
  negative_stands B a = one_for (sign_test B) (is_negative B) a (record { value = λ o. refl; name = λ n. refl }) refl (omega arith) (negative_law B)
  negative_stands H a = one_for (sign_test H) (is_negative H) a (record { value = λ o. refl; name = λ n. refl }) refl (omega arith) (negative_law H)
  negative_stands W a = one_for (sign_test W) (is_negative W) a (record { value = λ o. refl; name = λ n. refl }) refl (omega arith) (negative_law W)

  -- ---- where the words are given

  pub less_made : (w : Width) (a b r d x y o m n s : CExpr) (t : CCond) → a ≡ top_of w r → r ≡ low_of w d → d ≡ bin Sub x y → IsWithin w x → IsWithin w y → o ≡ overflow_of w x y r → b ≡ o
      → ForWord (signed_of w x) m → ForWord (signed_of w y) n → s ≡ less_of m n → t ≡ cmp op s (num 0) → ForCond (cmp op a b) t
  less_made w a b r d x y o m n s t ea er ed p q eo eb hm hn es et =
      let z : r ≡ low_of w (bin Sub x y) = er ∙ ap (low_of w) ed in
      let left : a ≡ top_of w (low_of w (bin Sub x y)) = ea ∙ ap (top_of w) z in
      let right : b ≡ overflow_of w x y (low_of w (bin Sub x y)) = eb ∙ eo ∙ ap (overflow_of w x y) z in
      let plain : ForCond (cmp op a b) (cmp op (less_of (signed_of w x) (signed_of w y)) (num 0)) = rw (left, right) (less_stands w x y p q) in
      subst (ForCond (cmp op a b)) (sym (et ∙ ap (λ k. cmp op k (num 0)) es))
      (cond_chain _ _ _ plain (cmp_stands op _ _ _ _ (fn2_stands Lts _ _ _ _ hm hn) (word_self (num 0))))

  pub negative_made : (w : Width) (a b x d m s : CExpr) (t : CCond) → a ≡ top_of w x → x ≡ low_of w d → b ≡ num 0 → m ≡ signed_of w d → s ≡ less_of m (num 0) → t ≡ cmp op s (num 0) → ForCond (cmp op a b) t
  negative_made w a b x d m s t ea ex eb em es et =
      let left : a ≡ top_of w (low_of w d) = ea ∙ ap (top_of w) ex in
      let plain : ForCond (cmp op a b) (cmp op (less_of (signed_of w d) (num 0)) (num 0)) = rw (left, eb) (negative_stands w d) in
      subst (ForCond (cmp op a b)) (sym (et ∙ ap (λ k. cmp op k (num 0)) (es ∙ ap (λ k. less_of k (num 0)) em))) plain

-- ---- a mask under an extension

extended_low : (f : CFn1) (k : ℕ) (o : Option ℕ) (z : ℕ) → ((x : ℕ) → fn1_of f (bit_and x k) ≡ fn1_of f x) → each (fn1_of f) (both (bin_of And) o (Some k)) ≡ Some z → each (fn1_of f) o ≡ Some z
extended_low f k None z h e = absurd (let n : ⊥ = cc in n)
extended_low f k (Some x) z h e = sym (ap Some (h x)) ∙ e

without_mask : (f : CFn1) (k : ℕ) (a : CExpr) → ((x : ℕ) → fn1_of f (bit_and x k) ≡ fn1_of f x) → ForWord (fn1 f (bin And a (num k))) (fn1 f a)
without_mask f k a h = record {
  value = λ t v s z e.
      l.fn1_value v f a ∙ extended_low f k (word_of a v) z h (sym (l.fn1_value v f (bin And a (num k)) ∙ ap (each (fn1_of f)) (l.bin_value v And a (num k) ∙ ap (both (bin_of And) (word_of a v)) (l.num_value v k))) ∙ e);
  names = λ t. subst IsTrue (sym (l.fn1_names f a)) (both_true (has_flow_names a) (has_flow_names (num k)) (subst IsTrue (l.fn1_names f (bin And a (num k)) ∙ l.bin_names And a (num k)) t)).0;
  parts = omega (arith, l.fn1_parts f a, l.fn1_parts f (bin And a (num k)), l.bin_parts And a (num k));
}

-- extension reads the low part alone
same_low : (bits x y : ℕ) → low_part bits x ≡ low_part bits y → sign_extended bits x ≡ sign_extended bits y
same_low bits x y h = ap (λ n. taken_to 32 (if nat_le (2 ^ (bits - 1)) n then pos n -ℤ pos (2 ^ bits) else pos n)) h

signed_low : (w : Width) (a : CExpr) → ForWord (signed_of w (low_of w a)) (signed_of w a)
signed_low B a = without_mask Sx1 255 a (λ x. same_low 8 (bit_and x 255) x (ap (low_part 8) (and_mask x 8) ∙ omega arith))
signed_low H a = without_mask Sx2 65535 a (λ x. same_low 16 (bit_and x 65535) x (ap (low_part 16) (and_mask x 16) ∙ omega arith))
signed_low W a = word_self a

pub signed_made : (w : Width) (e a c r : CExpr) → e ≡ low_of w a → c ≡ a → r ≡ signed_of w c → ForWord (signed_of w e) r
signed_made w e a c r h k m =
    subst (ForWord (signed_of w e)) (sym (m ∙ ap (signed_of w) k)) (subst (λ z. ForWord (signed_of w z) (signed_of w a)) (sym h) (signed_low w a))

pub signed_plain : (w : Width) (e c r : CExpr) → c ≡ e → r ≡ signed_of w c → ForWord (signed_of w e) r
signed_plain w e c r k m = subst (ForWord (signed_of w e)) (sym (m ∙ ap (signed_of w) k)) (word_self (signed_of w e))
