-- Terms that are seen to exclude each other are true together under no valuation.
use Rattle.std.proofs.Common.{◌≡◌, inl, inr, ℕ, ◌≢◌, Bool, true, false, not, ◌&&◌, nat_eq, refl, sym, ap, ◌∙◌, arith}
use Rattle.std.proofs.lemmas.Bool.{false≢true}
use Rattle.std.proofs.lemmas.Bool.Decides.{nat_tests}
use Rattle.cond_terms.specs.declared.term.Lit.{Lit}
use Rattle.cond_terms.specs.declared.term.Lit.TheVariants as lit
use Rattle.cond_terms.specs.declared.term.Term as made
use Rattle.cond_terms.specs.declared.term.Term.{Term, Term-F, roll-Term, out-Term}
use Rattle.cond_terms.specs.declared.term.Term.TheVariants as term
use Rattle.cond_terms.specs.Terms.{Valuation, lit_truth, term_truth}
use Rattle.cond_terms.specs.Exclusion.{IsConjunct, whole, in_first, in_second, AskDifferently, ContradictAt, Contradict, AreExclusive}
use Rattle.cond_terms.proofs.Layers.{truth_layer, truth_false, truth_lit, truth_and}

-- both sides of what is true
pub both_true : (a b : Bool) → (a && b) ≡ true → (a ≡ true) × (b ≡ true)
both_true true b h = (refl, h)
both_true false b h = absurd (false≢true h)

-- where a term is true, its conjuncts are
pub conjunct_true : (c t : Term) (v : Valuation) → IsConjunct c t → term_truth t v ≡ true → term_truth c v ≡ true
conjunct_true c t v (whole e n) h = ap (λ x. term_truth x v) e ∙ h
conjunct_true c t v (in_first a b e w) h = conjunct_true c a v w (both_true _ _ (sym (ap (λ x. term_truth x v) e ∙ truth_and a b v) ∙ h)).0
conjunct_true c t v (in_second a b e w) h = conjunct_true c b v w (both_true _ _ (sym (ap (λ x. term_truth x v) e ∙ truth_and a b v) ∙ h)).1

-- a truth and its turn
never_both : (b : Bool) → b ≡ true → not b ≡ true → ⊥
never_both true e f = false≢true f
never_both false e f = false≢true e

-- one word is not two
one_value : (x n m : ℕ) → n ≢ m → nat_eq x n ≡ true → nat_eq x m ≡ true → ⊥
one_value x n m d e f = grind (arith, nat_tests)

asked : (l m : Lit) (v : Valuation) → AskDifferently l m → lit_truth l v ≡ true → lit_truth m v ≡ true → ⊥
asked (lit.Eq x n) (lit.Eq y m) v w p q = one_value (v x) n m w.1 p (ap (λ z. nat_eq (v z) m) w.0 ∙ q)
asked (lit.Eq x n) (lit.Bool y) v w p q = w
asked (lit.Bool x) m v w p q = w

-- a literal and its Not
with_not : (l : Lit) (t : Term) (v : Valuation) → t ≡ term.Lit l → lit_truth l v ≡ true → not (term_truth t v) ≡ true → ⊥
with_not l t v e p q = never_both (lit_truth l v) p (ap not (sym (ap (λ x. term_truth x v) e ∙ truth_lit l v)) ∙ q)

at_layers : (y z : Term-F Term) (v : Valuation) → ContradictAt y z → term_truth (roll-Term y) v ≡ true → term_truth (roll-Term z) v ≡ true → ⊥
at_layers (Term-F.Lit l) (Term-F.Not t) v w p q = with_not l t v w (sym (truth_layer (Term-F.Lit l) v) ∙ p) (sym (truth_layer (Term-F.Not t) v) ∙ q)
at_layers (Term-F.Not t) (Term-F.Lit l) v w p q = with_not l t v w (sym (truth_layer (Term-F.Lit l) v) ∙ q) (sym (truth_layer (Term-F.Not t) v) ∙ p)
at_layers (Term-F.Lit l) (Term-F.Lit m) v w p q = asked l m v w (sym (truth_layer (Term-F.Lit l) v) ∙ p) (sym (truth_layer (Term-F.Lit m) v) ∙ q)
at_layers _ _ v w p q = absurd w

-- contradicting terms are not true together
never_together : (c d : Term) (v : Valuation) → Contradict c d → term_truth c v ≡ true → term_truth d v ≡ true → ⊥
never_together c d v w p q =
    at_layers (out-Term c) (out-Term d) v w (ap (λ x. term_truth x v) (made.roll-out-Term c) ∙ p) (ap (λ x. term_truth x v) (made.roll-out-Term d) ∙ q)

false_untrue : (t : Term) (v : Valuation) → t ≡ term.False → term_truth t v ≡ true → ⊥
false_untrue t v e h = false≢true (sym (ap (λ x. term_truth x v) e ∙ truth_false v) ∙ h)

pub apart : (s t : Term) → AreExclusive s t → (v : Valuation) → term_truth s v ≡ true → term_truth t v ≡ true → ⊥
apart s t (inl e) v p q = false_untrue s v e p
apart s t (inr (inl e)) v p q = false_untrue t v e q
apart s t (inr (inr w)) v p q = never_together w.0 w.2.0 v w.2.2 (conjunct_true w.0 s v w.1 p) (conjunct_true w.2.0 t v w.2.1 q)
