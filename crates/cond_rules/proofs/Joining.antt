-- Two comparisons of the same words: one comparison.
use Rattle.std.proofs.Common.{◌≡◌, ℕ, ◌+◌, ◌^◌, ◌<◌, ◌≤◌, Bool, true, false, not, ◌&&◌, ◌||◌, nat_eq, nat_lt, nat_le, Option, Some, None, refl, sym, ap, ◌∙◌, subst, arith, int_lt}
use Rattle.std.specs.Prelude.{IsTrue}
use Rattle.std.proofs.lemmas.Bool.Decides.{nat_tests}
use Rattle.dream_words.specs.declared.machine.Width.{Width}
use Rattle.dream_words.specs.declared.machine.Width.TheVariants.{B, H, W}
use Rattle.dream_words.specs.Words.{bit_of, signed_part, sign_extended}
use Rattle.run_parts.specs.World.{Names}
use Rattle.c_syntax.specs.declared.syntax.CCmp.{CCmp}
use Rattle.c_syntax.specs.declared.syntax.CCmp.TheVariants.{Eq, Ne, Lt, Le}
use Rattle.c_syntax.specs.declared.syntax.CFn2.TheVariants.{Lts}
use Rattle.c_syntax.specs.declared.syntax.CExpr.{CExpr}
use Rattle.c_syntax.specs.declared.syntax.CCond.{CCond}
use Rattle.c_syntax.specs.Words.{cmp_of, fn2_of}
use Rattle.c_syntax.specs.Value.{both, picked, word_of, truth_of}
use Rattle.c_words.specs.Built.{num, cmp, and, or}
use Rattle.c_words.proofs.Layers.{word_layer, truth_layer}
use Rattle.micro_ir.specs.Rule.{has_flow_names, cond_has_flow_names}
use Rattle.micro_ir.proofs.Values.{both_true}
use Rattle.word_rules.specs.Parts.{cond_parts}
use Rattle.word_rules.specs.Standing.{AreWords, ForWord, ForCond}
use Rattle.word_rules.proofs.Layers as l
use Rattle.cond_rules.specs.Widths.{bits_at, signed_of, less_of, IsWithin}
use Rattle.cond_rules.specs.Forms.{extended_at, IsSignedForm, IsUnion, IsCommon}
use Rattle.cond_rules.proofs.Names.{both_and}
use Rattle.cond_rules.proofs.Tests.{Test, is_small, two_for}
use Rattle.cond_rules.proofs.Tests.Shape.{first, second}
use Rattle.cond_rules.proofs.Tests.Test.{test, all, any}
use Rattle.cond_rules.proofs.SignBits.{at_most_8, at_most_16, at_most_32, bit_is_0}

-- ---- unsigned words

either_is : (b c : Bool) → picked (Some b) (Some true) (Some c) ≡ Some (b || c)
either_is true c = refl
either_is false c = refl

both_are : (b c : Bool) → picked (Some b) (Some c) (Some false) ≡ Some (b && c)
both_are true c = refl
both_are false c = refl

pub equal_or_less : IsUnion Eq Lt Le
equal_or_less = record { union = λ x y. grind (arith, nat_tests) }

pub less_or_equal : IsUnion Lt Eq Le
less_or_equal = record { union = λ x y. grind (arith, nat_tests) }

pub at_most_not_equal : IsCommon Le Ne Lt
at_most_not_equal = record { common = λ x y. grind (arith, nat_tests) }

pub union_made : (p q r : CCmp) (x y m n a b : CExpr) (t u w : CCond) → IsUnion p q r → t ≡ cmp p x y → u ≡ cmp q m n → x ≡ m → y ≡ n → a ≡ x → b ≡ y → w ≡ cmp r a b → ForCond (or t u) w
union_made p q r x y m n a b t u w h et eu em en ea eb ew =
    rw (et, eu, sym em, sym en, ew, ea, eb)
    (two_for (any (test p first second) (test q first second)) (test r first second) x y (λ k. k < 2 ^ 32) (λ k. k < 2 ^ 32) (is_small x) (is_small y)
    (record { first_value = λ o. refl; second_value = λ k. refl; first_name = λ k. refl; second_name = refl }) refl (omega arith)
    (λ i j _ _. either_is (cmp_of p i j) (cmp_of q i j) ∙ ap Some (sym (h.union i j))))

pub common_made : (p q r : CCmp) (x y m n a b : CExpr) (t u w : CCond) → IsCommon p q r → t ≡ cmp p x y → u ≡ cmp q m n → x ≡ n → y ≡ m → a ≡ x → b ≡ y → w ≡ cmp r a b → ForCond (and t u) w
common_made p q r x y m n a b t u w h et eu en em ea eb ew =
    rw (et, eu, sym em, sym en, ew, ea, eb)
    (two_for (all (test p first second) (test q second first)) (test r first second) x y (λ k. k < 2 ^ 32) (λ k. k < 2 ^ 32) (is_small x) (is_small y)
    (record { first_value = λ o. refl; second_value = λ k. refl; first_name = λ k. refl; second_name = refl }) refl (omega arith)
    (λ i j _ _. both_are (cmp_of p i j) (cmp_of q j i) ∙ ap Some (sym (h.common i j))))

-- ---- signed words

-- less as signed numbers, of two words that were extended
abbrev is_less : Width → ℕ → ℕ → Bool
is_less w x y = int_lt (signed_part 32 (extended_at w x)) (signed_part 32 (extended_at w y))

at_most_at : (w : Width) (x y : ℕ) → x < 2 ^ bits_at w → y < 2 ^ bits_at w → not (is_less w y x) ≡ (nat_eq x y || is_less w x y)
at_most_at B x y h k = at_most_8 x y h k
at_most_at H x y h k = at_most_16 x y h k
at_most_at W x y h k = at_most_32 x y h k

not_not : (b : Bool) → not (not b) ≡ b
not_not true = refl
not_not false = refl

neither : (a b : Bool) → not (a || b) ≡ (not a && not b)
neither true b = refl
neither false b = refl

union_law : (w : Width) (x y : ℕ) → x < 2 ^ bits_at w → y < 2 ^ bits_at w → nat_eq (bit_of (is_less w y x)) 0 ≡ (nat_eq x y || not (nat_eq (bit_of (is_less w x y)) 0))
union_law w x y h k =
    bit_is_0 (is_less w y x) ∙ at_most_at w x y h k ∙ sym (ap (λ b. nat_eq x y || b) (ap not (bit_is_0 (is_less w x y)) ∙ not_not (is_less w x y)))

common_law : (w : Width) (x y : ℕ) → x < 2 ^ bits_at w → y < 2 ^ bits_at w → not (nat_eq (bit_of (is_less w y x)) 0) ≡ (not (nat_eq x y) && nat_eq (bit_of (is_less w x y)) 0)
common_law w x y h k =
    ap not (bit_is_0 (is_less w y x) ∙ at_most_at w x y h k) ∙ neither (nat_eq x y) (is_less w x y) ∙ sym (ap (λ b. not (nat_eq x y) && b) (bit_is_0 (is_less w x y)))

-- what a comparison of `lts` with 0 gives
abbrev less_test : CCmp → Option ℕ → Option ℕ → Option Bool
less_test op o r = both (λ x y. Some (cmp_of op x y)) (both (λ x y. Some (fn2_of Lts x y)) o r) (Some 0)

abbrev word_test : CCmp → Option ℕ → Option ℕ → Option Bool
word_test op o r = both (λ x y. Some (cmp_of op x y)) o r

less_value : (v : Names) (op : CCmp) (m n : CExpr) → truth_of (cmp op (less_of m n) (num 0)) v ≡ less_test op (word_of m v) (word_of n v)
less_value v op m n = simp (word_layer, truth_layer)

-- what is given where a value is
abbrev Extends : Width → Option ℕ → Option ℕ → Type 0
Extends w o m = (x : ℕ) → o ≡ Some x → (x < 2 ^ bits_at w) × (m ≡ Some (extended_at w x))

union_value : (w : Width) (o r m n : Option ℕ) (c : Bool) → Extends w o m → Extends w r n → picked (word_test Eq o r) (Some true) (less_test Ne m n) ≡ Some c → less_test Eq n m ≡ Some c
union_value w None r m n c h k e = absurd (let z : ⊥ = cc in z)
union_value w (Some x) None m n c h k e = absurd (let z : ⊥ = cc in z)
union_value w (Some x) (Some y) m n c h k e =
    let i = h x refl in
    let j = k y refl in
    let given : picked (word_test Eq (Some x) (Some y)) (Some true) (less_test Ne (Some (extended_at w x)) (Some (extended_at w y))) ≡ Some c =
    sym (ap (λ z. picked (word_test Eq (Some x) (Some y)) (Some true) z) (ap (λ z. less_test Ne z n) i.1 ∙ ap (less_test Ne (Some (extended_at w x))) j.1)) ∙ e in
    ap (λ z. less_test Eq z m) j.1 ∙ ap (less_test Eq (Some (extended_at w y))) i.1 ∙ ap Some (union_law w x y i.0 j.0) ∙ sym (either_is (nat_eq x y) (not (nat_eq (bit_of (is_less w x y)) 0))) ∙ given

common_value : (w : Width) (o r m n : Option ℕ) (c : Bool) → Extends w o m → Extends w r n → picked (word_test Ne o r) (less_test Eq m n) (Some false) ≡ Some c → less_test Ne n m ≡ Some c
common_value w None r m n c h k e = absurd (let z : ⊥ = cc in z)
common_value w (Some x) None m n c h k e = absurd (let z : ⊥ = cc in z)
common_value w (Some x) (Some y) m n c h k e =
    let i = h x refl in
    let j = k y refl in
    let given : picked (word_test Ne (Some x) (Some y)) (less_test Eq (Some (extended_at w x)) (Some (extended_at w y))) (Some false) ≡ Some c =
    sym (ap (λ z. picked (word_test Ne (Some x) (Some y)) z (Some false)) (ap (λ z. less_test Eq z n) i.1 ∙ ap (less_test Eq (Some (extended_at w x))) j.1)) ∙ e in
    ap (λ z. less_test Ne z m) j.1 ∙ ap (less_test Ne (Some (extended_at w y))) i.1 ∙ ap Some (common_law w x y i.0 j.0) ∙ sym (both_are (not (nat_eq x y)) (nat_eq (bit_of (is_less w x y)) 0)) ∙ given

module _ (w : Width) (x y m n : CExpr) (h : IsSignedForm w x m) (k : IsSignedForm w y n) where
  extends : (e f : CExpr) → IsSignedForm w e f → IsTrue (has_flow_names e) → (v : Names) → AreWords v → Extends w (word_of e v) (word_of f v)
  extends e f p t v s z q = (p.within t v s z q, p.value t v s z q)

  turned : (op o : CCmp) → IsTrue (cond_has_flow_names (cmp op (less_of m n) (num 0))) → IsTrue (cond_has_flow_names (cmp o (less_of n m) (num 0)))
  turned op o t =
      let c = both_true (has_flow_names (less_of m n)) (has_flow_names (num 0)) (subst IsTrue (l.cmp_names op (less_of m n) (num 0)) t) in
      let d = both_true (has_flow_names m) (has_flow_names n) (subst IsTrue (l.fn2_names Lts m n) c.0) in
      subst IsTrue (sym (l.cmp_names o (less_of n m) (num 0))) (both_and _ _ (subst IsTrue (sym (l.fn2_names Lts n m)) (both_and _ _ d.1 d.0)) c.1)

  turned_parts : (op o : CCmp) → cond_parts (cmp o (less_of n m) (num 0)) ≤ cond_parts (cmp op (less_of m n) (num 0))
  turned_parts op o =
      omega (arith, l.cmp_parts op (less_of m n) (num 0), l.cmp_parts o (less_of n m) (num 0), l.fn2_parts Lts m n, l.fn2_parts Lts n m)

  union_stands : ForCond (or (cmp Eq x y) (cmp Ne (less_of m n) (num 0))) (cmp Eq (less_of n m) (num 0))
  union_stands = record {
    truth = λ t v s c e.
        let p = both_true _ _ (subst IsTrue (l.or_names (cmp Eq x y) (cmp Ne (less_of m n) (num 0))) t) in
        let q = both_true (has_flow_names x) (has_flow_names y) (subst IsTrue (l.cmp_names Eq x y) p.0) in
        less_value v Eq n m ∙ union_value w (word_of x v) (word_of y v) (word_of m v) (word_of n v) c (extends x m h q.0 v s) (extends y n k q.1 v s)
        (sym (l.or_value v (cmp Eq x y) (cmp Ne (less_of m n) (num 0)) ∙ ap (λ z. picked z (Some true) (truth_of (cmp Ne (less_of m n) (num 0)) v)) (l.cmp_value v Eq x y) ∙ ap (picked (word_test Eq (word_of x v) (word_of y v)) (Some true)) (less_value v Ne m n)) ∙ e);
    names = λ t. turned Ne Eq (both_true _ _ (subst IsTrue (l.or_names (cmp Eq x y) (cmp Ne (less_of m n) (num 0))) t)).1;
    parts = omega (arith, turned_parts Ne Eq, l.or_parts (cmp Eq x y) (cmp Ne (less_of m n) (num 0)));
  }

  common_stands : ForCond (and (cmp Ne x y) (cmp Eq (less_of m n) (num 0))) (cmp Ne (less_of n m) (num 0))
  common_stands = record {
    truth = λ t v s c e.
        let p = both_true _ _ (subst IsTrue (l.and_names (cmp Ne x y) (cmp Eq (less_of m n) (num 0))) t) in
        let q = both_true (has_flow_names x) (has_flow_names y) (subst IsTrue (l.cmp_names Ne x y) p.0) in
        less_value v Ne n m ∙ common_value w (word_of x v) (word_of y v) (word_of m v) (word_of n v) c (extends x m h q.0 v s) (extends y n k q.1 v s)
        (sym (l.and_value v (cmp Ne x y) (cmp Eq (less_of m n) (num 0)) ∙ ap (λ z. picked z (truth_of (cmp Eq (less_of m n) (num 0)) v) (Some false)) (l.cmp_value v Ne x y) ∙ ap (λ z. picked (word_test Ne (word_of x v) (word_of y v)) z (Some false)) (less_value v Eq m n)) ∙ e);
    names = λ t. turned Eq Ne (both_true _ _ (subst IsTrue (l.and_names (cmp Ne x y) (cmp Eq (less_of m n) (num 0))) t)).1;
    parts = omega (arith, turned_parts Eq Ne, l.and_parts (cmp Ne x y) (cmp Eq (less_of m n) (num 0)));
  }

pub signed_union_made : (w : Width) (x y m n z i a b s : CExpr) (t u r : CCond) → IsSignedForm w x m → IsSignedForm w y n → t ≡ cmp Eq x y → u ≡ cmp Ne z i → i ≡ num 0 → z ≡ less_of m n → a ≡ n → b ≡ m → s ≡ less_of a b → r ≡ cmp Eq s (num 0) → ForCond (or t u) r
signed_union_made w x y m n z i a b s t u r h k et eu ei ez ea eb es er = rw (et, eu, ei, ez, er, es, ea, eb) (union_stands w x y m n h k)

pub signed_common_made : (w : Width) (x y m n z i a b s : CExpr) (t u r : CCond) → IsSignedForm w x m → IsSignedForm w y n → t ≡ cmp Ne x y → u ≡ cmp Eq z i → i ≡ num 0 → z ≡ less_of m n → a ≡ n → b ≡ m → s ≡ less_of a b → r ≡ cmp Ne s (num 0) → ForCond (and t u) r
signed_common_made w x y m n z i a b s t u r h k et eu ei ez ea eb es er = rw (et, eu, ei, ez, er, es, ea, eb) (common_stands w x y m n h k)

-- ---- signed forms

signed_value : (v : Names) (w : Width) (e : CExpr) (x : ℕ) → word_of e v ≡ Some x → word_of (signed_of w e) v ≡ Some (extended_at w x)
signed_value v B e x h = simp (word_layer, h)
signed_value v H e x h = simp (word_layer, h)
signed_value v W e x h = h

pub form_of_signed : (w : Width) (e s m : CExpr) → ForWord (signed_of w e) s → s ≡ m → IsWithin w e → IsSignedForm w e m
form_of_signed w e s m h k within = record {
  value = λ t v a x q. subst (λ z. word_of z v ≡ Some (extended_at w x)) k (h.value (named w t) v a (extended_at w x) (signed_value v w e x q));
  within = within;
}
  where
    named : (w : Width) → IsTrue (has_flow_names e) → IsTrue (has_flow_names (signed_of w e))
    named B t = subst IsTrue (sym (l.fn1_names _ e)) t
    named H t = subst IsTrue (sym (l.fn1_names _ e)) t
    named W t = t

zero_extended : (w : Width) → extended_at w 0 ≡ 0
zero_extended B = refl
zero_extended H = refl
zero_extended W = refl

pub form_of_zero : (w : Width) (e m : CExpr) → e ≡ num 0 → m ≡ num 0 → IsWithin w e → IsSignedForm w e m
form_of_zero w e m h k within = record {
  value = λ t v a x q.
      let z : Some 0 ≡ Some x = sym (l.num_value v 0) ∙ subst (λ i. word_of i v ≡ Some x) h q in
      let x0 : 0 ≡ x = cc in
      subst (λ i. word_of i v ≡ Some (extended_at w x)) (sym k) (l.num_value v 0 ∙ ap Some (sym (zero_extended w)) ∙ ap (λ i. Some (extended_at w i)) x0);
  within = within;
}
