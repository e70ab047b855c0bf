-- Common conjuncts taken out of an Or: the truth is kept, and there are no more literals.
use Rattle.std.proofs.Common.{◌≡◌, ◌≢◌, ◌⊎◌, inl, inr, ◌+◌, Bool, true, false, not, ◌&&◌, ◌||◌, refl, sym, ap, ◌∙◌, subst, arith}
use Rattle.cond_terms.specs.declared.term.Lit.{Lit}
use Rattle.cond_terms.specs.declared.term.Term.{Term}
use Rattle.cond_terms.specs.declared.term.Term.TheVariants as term
use Rattle.cond_terms.specs.Terms.{Valuation, term_truth, literals}
use Rattle.cond_terms.specs.Exclusion.{is_and, IsConjunct, in_first, in_second}
use Rattle.cond_terms.specs.Factored.{ShareNone, IsFactored, always, never, literal, negated, both, either, IsBeside, Each, IsParted, IsFactoredOr, IsFactoredForm}
use Rattle.cond_terms.proofs.Conjuncts.{same_parts, in_a_part, only_itself, never_and, true_is_none, false_is_none, lit_is_none, not_is_none, or_is_none}
use Rattle.cond_terms.proofs.Excluding.{conjunct_true}
use Rattle.cond_terms.proofs.Layers.{truth_true, truth_not, truth_and, truth_or, literals_true, literals_not, literals_and, literals_or}

-- tables of truth
and_true : (b : Bool) → (b && true) ≡ b
and_true true = refl
and_true false = refl

four_sorted : (a b c d : Bool) → ((a && b) && (c && d)) ≡ ((a && c) && (b && d))
four_sorted true true c d = refl
four_sorted true false true d = refl
four_sorted true false false d = refl
four_sorted false b c d = refl

taken_out : (x a b : Bool) → ((x && a) || (x && b)) ≡ (x && (a || b))
taken_out true a b = refl
taken_out false a b = refl

all_out_first : (x b : Bool) → ((x && true) || (x && b)) ≡ x
all_out_first true b = refl
all_out_first false b = refl

all_out_second : (x a : Bool) → ((x && a) || (x && true)) ≡ x
all_out_second true true = refl
all_out_second true false = refl
all_out_second false a = refl

-- the shared part of the first stands for that of the second
same_share : (r x y b : Bool) → r ≡ (y && b) → (x ≡ true → y ≡ true) → (r ≡ true → x ≡ true) → r ≡ (x && b)
same_share true x y b e up down = e ∙ ap (λ z. z && b) (up (down refl) ∙ sym (down refl))
same_share false true y b e up down = e ∙ ap (λ z. z && b) (up refl)
same_share false false y b e up down = refl

truth_at_true : (t : Term) (v : Valuation) → t ≡ term.True → term_truth t v ≡ true
truth_at_true t v e = ap (λ x. term_truth x v) e ∙ truth_true v

literals_at_true : (t : Term) → t ≡ term.True → literals t ≡ 0
literals_at_true t e = ap literals e ∙ literals_true

-- two terms beside each other
pub beside_truth : (a b made : Term) (v : Valuation) → IsBeside a b made → term_truth made v ≡ (term_truth a v && term_truth b v)
beside_truth a b made v (inl w) = ap (λ x. term_truth x v) w.1 ∙ ap (λ z. z && term_truth b v) (sym (truth_at_true a v w.0))
beside_truth a b made v (inr (inl w)) =
    ap (λ x. term_truth x v) w.1 ∙ sym (and_true (term_truth a v)) ∙ ap (λ z. term_truth a v && z) (sym (truth_at_true b v w.0))
beside_truth a b made v (inr (inr w)) = ap (λ x. term_truth x v) w.2 ∙ truth_and a b v

pub beside_literals : (a b made : Term) → IsBeside a b made → literals made ≡ literals a + literals b
beside_literals a b made (inl w) = omega (arith, ap literals w.1, literals_at_true a w.0)
beside_literals a b made (inr (inl w)) = omega (arith, ap literals w.1, literals_at_true b w.0)
beside_literals a b made (inr (inr w)) = ap literals w.2 ∙ literals_and a b

pub beside_each : (P : Term → Type 0) (a b made : Term) → IsBeside a b made → Each P a → Each P b → Each P made
beside_each P a b made (inl w) p q n c h = q (λ e. n (w.1 ∙ e)) c (subst (IsConjunct c) w.1 h)
beside_each P a b made (inr (inl w)) p q n c h = p (λ e. n (w.1 ∙ e)) c (subst (IsConjunct c) w.1 h)
beside_each P a b made (inr (inr w)) p q n c h = elim (in_a_part c a b made w.2 h) [ inl x ↦ p w.0 c x | inr x ↦ q w.1 c x ]

pub beside_factored : (a b made : Term) → IsBeside a b made → IsFactored a → IsFactored b → IsFactored made
beside_factored a b made (inl w) p q = subst IsFactored (sym w.1) q
beside_factored a b made (inr (inl w)) p q = subst IsFactored (sym w.1) p
beside_factored a b made (inr (inr w)) p q = both a b w.2 p q

-- the parts of a factored And
factored_parts : (a b t : Term) → t ≡ term.And a b → IsFactored t → IsFactored a × IsFactored b
factored_parts a b t e (always f) = absurd (never_and _ t a b true_is_none f e)
factored_parts a b t e (never f) = absurd (never_and _ t a b false_is_none f e)
factored_parts a b t e (literal l f) = absurd (never_and _ t a b (lit_is_none l) f e)
factored_parts a b t e (negated x f p) = absurd (never_and _ t a b (not_is_none x) f e)
factored_parts a b t e (both x y f p q) =
    let same = same_parts x y a b (sym f ∙ e) in
    (subst IsFactored same.0 p, subst IsFactored same.1 q)
factored_parts a b t e (either x y f s p q) = absurd (never_and _ t a b (or_is_none x y) f e)

-- a term that is its only conjunct
pub parted_shared : (t other shared own : Term) → shared ≡ t → own ≡ term.True → IsConjunct t other → IsParted t other shared own
parted_shared t other shared own e f w = record {
  same_truth = λ v. sym (and_true (term_truth t v)) ∙ ap (λ z. term_truth t v && z) (sym (truth_at_true own v f)) ∙ ap (λ x. term_truth x v && term_truth own v) (sym e);
  same_size = omega (arith, ap literals e, literals_at_true own f);
  shared_follows = λ v h. ap (λ x. term_truth x v) e ∙ conjunct_true t other v w h;
  own_alone = λ n. absurd (n f);
  own_kept = λ n. absurd (n f);
  factored = λ p. (subst IsFactored (sym e) p, always f);
}

pub parted_own : (t other shared own : Term) → is_and t ≡ false → shared ≡ term.True → own ≡ t → (IsConjunct t other → ⊥) → IsParted t other shared own
parted_own t other shared own n e f w = record {
  same_truth = λ v. ap (λ x. term_truth x v) (sym f) ∙ ap (λ z. z && term_truth own v) (sym (truth_at_true shared v e));
  same_size = omega (arith, ap literals f, literals_at_true shared e);
  shared_follows = λ v h. truth_at_true shared v e;
  own_alone = λ m c h k. w (subst (λ z. IsConjunct z other) (only_itself c t n (subst (IsConjunct c) f h)) k);
  own_kept = λ m c h. subst (IsConjunct c) f h;
  factored = λ p. (always e, subst IsFactored (sym f) p);
}

-- an And is parted by its parts
pub parted_and : (t a b other x p y q shared own : Term) → t ≡ term.And a b → IsParted a other x p → IsParted b other y q → IsBeside x y shared → IsBeside p q own → IsParted t other shared own
parted_and t a b other x p y q shared own e f g s o = record {
  same_truth = λ v.
      ap (λ z. term_truth z v) e ∙ truth_and a b v ∙ ap (λ z. z && term_truth b v) (f.same_truth v) ∙ ap (λ z. (term_truth x v && term_truth p v) && z) (g.same_truth v)
      ∙ four_sorted (term_truth x v) (term_truth p v) (term_truth y v) (term_truth q v)
      ∙ ap (λ z. z && (term_truth p v && term_truth q v)) (sym (beside_truth x y shared v s)) ∙ ap (λ z. term_truth shared v && z) (sym (beside_truth p q own v o));
  same_size = omega (arith, ap literals e, literals_and a b, f.same_size, g.same_size, beside_literals x y shared s, beside_literals p q own o);
  shared_follows = λ v h. beside_truth x y shared v s ∙ ap (λ z. z && term_truth y v) (f.shared_follows v h) ∙ g.shared_follows v h;
  own_alone = beside_each _ p q own o f.own_alone g.own_alone;
  own_kept = beside_each _ p q own o (λ n c h. in_first a b e (f.own_kept n c h)) (λ n c h. in_second a b e (g.own_kept n c h));
  factored = λ w.
      let parts = factored_parts a b t e w in
      (beside_factored x y shared s (f.factored parts.0).0 (g.factored parts.1).0, beside_factored p q own o (f.factored parts.0).1 (g.factored parts.1).1);
}

-- the truth of an Or by what its parts share
or_truth : (a b shared first again second : Term) → IsParted a b shared first → IsParted b shared again second → (v : Valuation)
    → (term_truth a v || term_truth b v) ≡ ((term_truth shared v && term_truth first v) || (term_truth shared v && term_truth second v))
or_truth a b shared first again second p q v =
    ap (λ z. z || term_truth b v) (p.same_truth v)
    ∙ ap (λ z. (term_truth shared v && term_truth first v) || z)
    (same_share (term_truth b v) (term_truth shared v) (term_truth again v) (term_truth second v) (q.same_truth v) (q.shared_follows v) (p.shared_follows v))

pub all_shared : (a b shared first again second : Term) → IsParted a b shared first → IsParted b shared again second → (first ≡ term.True) ⊎ (second ≡ term.True) → IsFactoredOr a b shared
all_shared a b shared first again second p q (inl e) = record {
  same_truth = λ v. sym (or_truth a b shared first again second p q v
      ∙ ap (λ z. (term_truth shared v && z) || (term_truth shared v && term_truth second v)) (truth_at_true first v e) ∙ all_out_first (term_truth shared v) (term_truth second v));
  no_larger = omega (arith, p.same_size, q.same_size);
  factored = λ f g. (p.factored f).0;
}
all_shared a b shared first again second p q (inr e) = record {
  same_truth = λ v. sym (or_truth a b shared first again second p q v
      ∙ ap (λ z. (term_truth shared v && term_truth first v) || (term_truth shared v && z)) (truth_at_true second v e) ∙ all_out_second (term_truth shared v) (term_truth first v));
  no_larger = omega (arith, p.same_size, q.same_size);
  factored = λ f g. (p.factored f).0;
}

pub some_left : (a b shared first again second made : Term) → IsParted a b shared first → IsParted b shared again second → first ≢ term.True → second ≢ term.True
    → IsBeside shared (term.Or first second) made → IsFactoredOr a b made
some_left a b shared first again second made p q n m w = record {
  same_truth = λ v. beside_truth shared (term.Or first second) made v w ∙ ap (λ z. term_truth shared v && z) (truth_or first second v)
      ∙ sym (or_truth a b shared first again second p q v ∙ taken_out (term_truth shared v) (term_truth first v) (term_truth second v));
  no_larger = omega (arith, p.same_size, q.same_size, beside_literals shared (term.Or first second) made w, literals_or first second);
  factored = λ f g.
      let apart : ShareNone first second = λ c h k. p.own_alone n c h (q.own_kept m c k) in
      beside_factored shared (term.Or first second) made w (p.factored f).0 (either first second refl apart (p.factored f).1 (q.factored g).1);
}

-- each variant factored
pub form_true : (t made : Term) → t ≡ term.True → made ≡ term.True → IsFactoredForm t made
form_true t made e f = record {
  same_truth = λ v. ap (λ x. term_truth x v) (f ∙ sym e);
  no_larger = omega (arith, ap literals (f ∙ sym e));
  factored = always f;
}

pub form_false : (t made : Term) → t ≡ term.False → made ≡ term.False → IsFactoredForm t made
form_false t made e f = record {
  same_truth = λ v. ap (λ x. term_truth x v) (f ∙ sym e);
  no_larger = omega (arith, ap literals (f ∙ sym e));
  factored = never f;
}

pub form_literal : (t made : Term) (l : Lit) → t ≡ term.Lit l → made ≡ term.Lit l → IsFactoredForm t made
form_literal t made l e f = record {
  same_truth = λ v. ap (λ x. term_truth x v) (f ∙ sym e);
  no_larger = omega (arith, ap literals (f ∙ sym e));
  factored = literal l f;
}

pub form_not : (t a x made : Term) → t ≡ term.Not a → made ≡ term.Not x → IsFactoredForm a x → IsFactoredForm t made
form_not t a x made e f p = record {
  same_truth = λ v. ap (λ z. term_truth z v) f ∙ truth_not x v ∙ ap not (p.same_truth v) ∙ sym (ap (λ z. term_truth z v) e ∙ truth_not a v);
  no_larger = omega (arith, ap literals e, ap literals f, literals_not a, literals_not x, p.no_larger);
  factored = negated x f p.factored;
}

pub form_and : (t a b x y made : Term) → t ≡ term.And a b → made ≡ term.And x y → IsFactoredForm a x → IsFactoredForm b y → IsFactoredForm t made
form_and t a b x y made e f p q = record {
  same_truth = λ v. ap (λ z. term_truth z v) f ∙ truth_and x y v ∙ ap (λ z. z && term_truth y v) (p.same_truth v) ∙ ap (λ z. term_truth a v && z) (q.same_truth v)
      ∙ sym (ap (λ z. term_truth z v) e ∙ truth_and a b v);
  no_larger = omega (arith, ap literals e, ap literals f, literals_and a b, literals_and x y, p.no_larger, q.no_larger);
  factored = both x y f p.factored q.factored;
}

pub form_or : (t a b x y made : Term) → t ≡ term.Or a b → IsFactoredForm a x → IsFactoredForm b y → IsFactoredOr x y made → IsFactoredForm t made
form_or t a b x y made e p q w = record {
  same_truth = λ v. w.same_truth v ∙ ap (λ z. z || term_truth y v) (p.same_truth v) ∙ ap (λ z. term_truth a v || z) (q.same_truth v)
      ∙ sym (ap (λ z. term_truth z v) e ∙ truth_or a b v);
  no_larger = omega (arith, ap literals e, literals_or a b, p.no_larger, q.no_larger, w.no_larger);
  factored = w.factored p.factored q.factored;
}
