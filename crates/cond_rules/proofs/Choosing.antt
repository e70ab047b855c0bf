-- A choice of two numbers, compared with a number.
use Rattle.std.proofs.Common.{◌≡◌, ℕ, ◌+◌, ◌≤◌, Bool, true, false, not, ◌&&◌, Option, Some, None, refl, sym, ap, ◌∙◌, subst, arith}
use Rattle.std.specs.Prelude.{IsTrue}
use Rattle.run_parts.specs.World.{Names}
use Rattle.c_syntax.specs.declared.syntax.CCmp.{CCmp}
use Rattle.c_syntax.specs.declared.syntax.CExpr.{CExpr}
use Rattle.c_syntax.specs.declared.syntax.CCond.{CCond}
use Rattle.c_syntax.specs.Words.{cmp_of}
use Rattle.c_syntax.specs.Value.{each, both, picked, word_of, truth_of}
use Rattle.c_words.specs.Built.{num, pick, cmp}
use Rattle.c_words.proofs.Layers.{word_layer, truth_layer}
use Rattle.micro_ir.specs.Rule.{has_flow_names, cond_has_flow_names}
use Rattle.micro_ir.proofs.Values.{both_true}
use Rattle.word_rules.specs.Parts.{cond_parts}
use Rattle.word_rules.specs.Standing.{ForCond}
use Rattle.word_rules.proofs.Layers as l
use Rattle.cond_rules.specs.Negation.{IsNegation}
use Rattle.cond_rules.proofs.Negating.{from_not, not_again}

module _ (op : CCmp) (t : CCond) (i j k : ℕ) where
  -- the comparison
  abbrev asked : CCond
  asked = cmp op (pick t (num i) (num j)) (num k)

  abbrev answer : Option Bool → Option Bool
  answer o = both (λ x y. Some (cmp_of op x y)) (picked o (Some i) (Some j)) (Some k)

  asked_value : (v : Names) → truth_of asked v ≡ answer (truth_of t v)
  asked_value v = simp (word_layer, truth_layer)

  asked_names : IsTrue (cond_has_flow_names asked) → IsTrue (cond_has_flow_names t)
  asked_names h =
      let n = both_true (has_flow_names (pick t (num i) (num j))) (has_flow_names (num k)) (subst IsTrue (l.cmp_names op (pick t (num i) (num j)) (num k)) h) in
      (both_true (cond_has_flow_names t) _ (subst IsTrue (l.pick_names t (num i) (num j)) n.0)).0

  kept : (o : Option Bool) (b : Bool) → cmp_of op i k ≡ true → cmp_of op j k ≡ false → answer o ≡ Some b → o ≡ Some b
  kept None b h g e = absurd (let n : ⊥ = cc in n)
  kept (Some true) b h g e = sym (ap Some h) ∙ e
  kept (Some false) b h g e = sym (ap Some g) ∙ e

  lost : (o : Option Bool) (b : Bool) → cmp_of op i k ≡ false → cmp_of op j k ≡ true → answer o ≡ Some b → each not o ≡ Some b
  lost None b h g e = absurd (let n : ⊥ = cc in n)
  lost (Some true) b h g e = sym (ap Some h) ∙ e
  lost (Some false) b h g e = sym (ap Some g) ∙ e

  fewer : cond_parts t ≤ cond_parts asked
  fewer = omega (arith, l.cmp_parts op (pick t (num i) (num j)) (num k), l.pick_parts t (num i) (num j))

  -- it holds of the first number alone: the test
  test_stands : cmp_of op i k ≡ true → cmp_of op j k ≡ false → ForCond asked t
  test_stands h g = record {
    truth = λ n v s b e. kept (truth_of t v) b h g (sym (asked_value v) ∙ e);
    names = asked_names;
    parts = fewer;
  }

  -- it holds of the second alone: the negation
  negation_stands : (u : CCond) → IsNegation t u → cmp_of op i k ≡ false → cmp_of op j k ≡ true → ForCond asked u
  negation_stands u q h g = record {
    truth = λ n v s b e. q.truth (asked_names n) v s (not b) (from_not (truth_of t v) b (lost (truth_of t v) b h g (sym (asked_value v) ∙ e))) ∙ ap Some (not_again b);
    names = λ n. q.names (asked_names n);
    parts = omega (arith, fewer, q.parts);
  }

-- ---- where the words are given

asked_is : (op : CCmp) (t : CCond) (i j k : ℕ) (a x y b : CExpr) → a ≡ pick t x y → x ≡ num i → y ≡ num j → b ≡ num k → cmp op a b ≡ asked op t i j k
asked_is op t i j k a x y b e p q h = rw (e, p, q, h) refl

pub first_chosen : (op : CCmp) (t : CCond) (i j k : ℕ) (a x y b : CExpr) (r : CCond) → a ≡ pick t x y → x ≡ num i → y ≡ num j → b ≡ num k → cmp_of op i k ≡ true → cmp_of op j k ≡ false → r ≡ t → ForCond (cmp op a b) r
first_chosen op t i j k a x y b r e p q h f g m =
    subst (ForCond (cmp op a b)) (sym m) (subst (λ z. ForCond z t) (sym (asked_is op t i j k a x y b e p q h)) (test_stands op t i j k f g))

pub second_chosen : (op : CCmp) (t : CCond) (i j k : ℕ) (a x y b : CExpr) (r : CCond) → a ≡ pick t x y → x ≡ num i → y ≡ num j → b ≡ num k → cmp_of op i k ≡ false → cmp_of op j k ≡ true → IsNegation t r → ForCond (cmp op a b) r
second_chosen op t i j k a x y b r e p q h f g m = subst (λ z. ForCond z r) (sym (asked_is op t i j k a x y b e p q h)) (negation_stands op t i j k r m f g)
