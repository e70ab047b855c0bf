-- Negations of comparisons, of negations, and of conjunctions and disjunctions of what has negations.
use Rattle.std.proofs.Common.{◌≡◌, ℕ, ◌+◌, ◌≤◌, Bool, true, false, not, ◌&&◌, Option, Some, None, refl, sym, ap, ◌∙◌, subst, arith}
use Rattle.std.specs.Prelude.{IsTrue}
use Rattle.std.proofs.lemmas.Bool.Decides.{nat_tests}
use Rattle.run_parts.specs.World.{Names}
use Rattle.c_syntax.specs.declared.syntax.CCmp.{CCmp}
use Rattle.c_syntax.specs.declared.syntax.CCmp.TheVariants.{Eq, Ne, Lt, Le}
use Rattle.c_syntax.specs.declared.syntax.CExpr.{CExpr}
use Rattle.c_syntax.specs.declared.syntax.CCond as conds
use Rattle.c_syntax.specs.declared.syntax.CCond.{CCond}
use Rattle.c_syntax.specs.declared.syntax.CCond.TheVariants as test
use Rattle.c_syntax.specs.Words.{cmp_of}
use Rattle.c_syntax.specs.Value.{each, both, picked, word_of, truth_of}
use Rattle.c_words.specs.Built.{cmp, cond_not, and, or}
use Rattle.micro_ir.specs.Rule.{has_flow_names, cond_has_flow_names}
use Rattle.micro_ir.proofs.Values.{both_true}
use Rattle.word_rules.specs.Standing.{ForCond}
use Rattle.cond_rules.proofs.Names.{both_and, two_names}
use Rattle.word_rules.proofs.Layers as l
use Rattle.cond_rules.specs.Negation.{IsNegation}

-- ---- truths

pub not_again : (b : Bool) → not (not b) ≡ b
not_again true = refl
not_again false = refl

-- what has a negation that gives b
pub from_not : (o : Option Bool) (b : Bool) → each not o ≡ Some b → o ≡ Some (not b)
from_not None b e = absurd (let n : ⊥ = cc in n)
from_not (Some true) b e = ap (each not) e
from_not (Some false) b e = ap (each not) e

turned : (f g : ℕ → ℕ → Bool) → ((x y : ℕ) → g x y ≡ not (f x y)) → (o p : Option ℕ) (b : Bool) → both (λ x y. Some (f x y)) o p ≡ Some b → both (λ x y. Some (g x y)) o p ≡ Some (not b)
turned f g h None p b e = absurd (let n : ⊥ = cc in n)
turned f g h (Some x) None b e = absurd (let n : ⊥ = cc in n)
turned f g h (Some x) (Some y) b e = ap Some (h x y) ∙ ap (each not) e

swapped : (f g : ℕ → ℕ → Bool) → ((x y : ℕ) → g y x ≡ not (f x y)) → (o p : Option ℕ) (b : Bool) → both (λ x y. Some (f x y)) o p ≡ Some b → both (λ x y. Some (g x y)) p o ≡ Some (not b)
swapped f g h None p b e = absurd (let n : ⊥ = cc in n)
swapped f g h (Some x) None b e = absurd (let n : ⊥ = cc in n)
swapped f g h (Some x) (Some y) b e = ap Some (h x y) ∙ ap (each not) e

-- a truth is the negation of another
abbrev Turns : Option Bool → Option Bool → Type 0
Turns o p = (b : Bool) → o ≡ Some b → p ≡ Some (not b)

and_turned : (o p q r : Option Bool) → Turns o q → Turns p r → Turns (picked o p (Some false)) (picked q (Some true) r)
and_turned None p q r h k b e = absurd (let n : ⊥ = cc in n)
and_turned (Some true) p q r h k b e = ap (λ z. picked z (Some true) r) (h true refl) ∙ k b e
and_turned (Some false) p q r h k b e = ap (λ z. picked z (Some true) r) (h false refl) ∙ ap (each not) e

or_turned : (o p q r : Option Bool) → Turns o q → Turns p r → Turns (picked o (Some true) p) (picked q r (Some false))
or_turned None p q r h k b e = absurd (let n : ⊥ = cc in n)
or_turned (Some true) p q r h k b e = ap (λ z. picked z r (Some false)) (h true refl) ∙ ap (each not) e
or_turned (Some false) p q r h k b e = ap (λ z. picked z r (Some false)) (h false refl) ∙ k b e

-- ---- comparisons

same_sides : (op o : CCmp) (a b : CExpr) → ((x y : ℕ) → cmp_of o x y ≡ not (cmp_of op x y)) → IsNegation (cmp op a b) (cmp o a b)
same_sides op o a b h = record {
  truth = λ t v s c e. l.cmp_value v o a b ∙ turned (cmp_of op) (cmp_of o) h (word_of a v) (word_of b v) c (sym (l.cmp_value v op a b) ∙ e);
  names = λ t. subst IsTrue (sym (l.cmp_names o a b)) (subst IsTrue (l.cmp_names op a b) t);
  parts = omega (arith, l.cmp_parts op a b, l.cmp_parts o a b);
}

other_sides : (op o : CCmp) (a b : CExpr) → ((x y : ℕ) → cmp_of o y x ≡ not (cmp_of op x y)) → IsNegation (cmp op a b) (cmp o b a)
other_sides op o a b h = record {
  truth = λ t v s c e. l.cmp_value v o b a ∙ swapped (cmp_of op) (cmp_of o) h (word_of a v) (word_of b v) c (sym (l.cmp_value v op a b) ∙ e);
  names = λ t. let n = both_true (has_flow_names a) (has_flow_names b) (subst IsTrue (l.cmp_names op a b) t) in
      subst IsTrue (sym (l.cmp_names o b a)) (both_and (has_flow_names b) (has_flow_names a) n.1 n.0);
  parts = omega (arith, l.cmp_parts op a b, l.cmp_parts o b a);
}

pub opposite_eq : (op : CCmp) (a b : CExpr) (r : CCond) → op ≡ Eq → r ≡ cmp Ne a b → IsNegation (cmp op a b) r
opposite_eq op a b r e h = subst (IsNegation (cmp op a b)) (sym h) (subst (λ o. IsNegation (cmp o a b) (cmp Ne a b)) (sym e) (same_sides Eq Ne a b (λ x y. refl)))

pub opposite_ne : (op : CCmp) (a b : CExpr) (r : CCond) → op ≡ Ne → r ≡ cmp Eq a b → IsNegation (cmp op a b) r
opposite_ne op a b r e h =
    subst (IsNegation (cmp op a b)) (sym h) (subst (λ o. IsNegation (cmp o a b) (cmp Eq a b)) (sym e) (same_sides Ne Eq a b (λ x y. sym (not_again _))))

pub opposite_lt : (op : CCmp) (a b : CExpr) (r : CCond) → op ≡ Lt → r ≡ cmp Le b a → IsNegation (cmp op a b) r
opposite_lt op a b r e h =
    subst (IsNegation (cmp op a b)) (sym h) (subst (λ o. IsNegation (cmp o a b) (cmp Le b a)) (sym e) (other_sides Lt Le a b (λ x y. grind (arith, nat_tests))))

pub opposite_le : (op : CCmp) (a b : CExpr) (r : CCond) → op ≡ Le → r ≡ cmp Lt b a → IsNegation (cmp op a b) r
opposite_le op a b r e h =
    subst (IsNegation (cmp op a b)) (sym h) (subst (λ o. IsNegation (cmp o a b) (cmp Lt b a)) (sym e) (other_sides Le Lt a b (λ x y. grind (arith, nat_tests))))

-- ---- the other variants

pub negated_not : (t u g r : CCond) → t ≡ conds.Not u → g ≡ u → r ≡ g → IsNegation t r
negated_not t u g r e h k = subst (IsNegation t) (sym (k ∙ h)) (subst (λ z. IsNegation z u) (sym (e ∙ sym (test.rolls-Not u))) (record {
  truth = λ p v s b q. from_not (truth_of u v) b (sym (l.cond_not_value v u) ∙ q);
  names = λ p. subst IsTrue (l.cond_not_names u) p;
  parts = omega (arith, l.cond_not_parts u);
}))

pub negated_and : (t u w g h x y r : CCond) → t ≡ conds.And u w → g ≡ u → h ≡ w → IsNegation g x → IsNegation h y → r ≡ or x y → IsNegation t r
negated_and t u w g h x y r e eg eh p q k =
    let a : IsNegation u x = subst (λ z. IsNegation z x) eg p in
    let b : IsNegation w y = subst (λ z. IsNegation z y) eh q in
    subst (IsNegation t) (sym k) (subst (λ z. IsNegation z (or x y)) (sym (e ∙ sym (test.rolls-And u w))) (record {
      truth = λ n v s c m. let n2 = both_true _ _ (subst IsTrue (l.and_names u w) n) in
          l.or_value v x y ∙ and_turned (truth_of u v) (truth_of w v) (truth_of x v) (truth_of y v) (a.truth n2.0 v s) (b.truth n2.1 v s) c (sym (l.and_value v u w) ∙ m);
      names = λ n. subst IsTrue (sym (l.or_names x y)) (two_names _ _ _ _ a.names b.names (subst IsTrue (l.and_names u w) n));
      parts = omega (arith, l.and_parts u w, l.or_parts x y, a.parts, b.parts);
    }))

pub negated_or : (t u w g h x y r : CCond) → t ≡ conds.Or u w → g ≡ u → h ≡ w → IsNegation g x → IsNegation h y → r ≡ and x y → IsNegation t r
negated_or t u w g h x y r e eg eh p q k =
    let a : IsNegation u x = subst (λ z. IsNegation z x) eg p in
    let b : IsNegation w y = subst (λ z. IsNegation z y) eh q in
    subst (IsNegation t) (sym k) (subst (λ z. IsNegation z (and x y)) (sym (e ∙ sym (test.rolls-Or u w))) (record {
      truth = λ n v s c m. let n2 = both_true _ _ (subst IsTrue (l.or_names u w) n) in
          l.and_value v x y ∙ or_turned (truth_of u v) (truth_of w v) (truth_of x v) (truth_of y v) (a.truth n2.0 v s) (b.truth n2.1 v s) c (sym (l.or_value v u w) ∙ m);
      names = λ n. subst IsTrue (sym (l.and_names x y)) (two_names _ _ _ _ a.names b.names (subst IsTrue (l.or_names u w) n));
      parts = omega (arith, l.or_parts u w, l.and_parts x y, a.parts, b.parts);
    }))

-- ---- a negation may stand for a Not

pub not_made : (t u : CCond) → IsNegation t u → ForCond (cond_not t) u
not_made t u h = record {
  truth = λ n v s b e. h.truth (subst IsTrue (l.cond_not_names t) n) v s (not b) (from_not (truth_of t v) b (sym (l.cond_not_value v t) ∙ e)) ∙ ap Some (not_again b);
  names = λ n. h.names (subst IsTrue (l.cond_not_names t) n);
  parts = omega (arith, l.cond_not_parts t, h.parts);
}
