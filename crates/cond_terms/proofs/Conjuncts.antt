-- Conjuncts of a term by its parts.
use Rattle.std.proofs.Common.{◌≡◌, ◌⊎◌, inl, inr, Bool, true, false, refl, sym, ap, ◌∙◌, subst}
use Rattle.std.proofs.lemmas.Bool.{false≢true}
use Rattle.cond_terms.specs.declared.term.Lit.{Lit}
use Rattle.cond_terms.specs.declared.term.Term as made
use Rattle.cond_terms.specs.declared.term.Term.{Term, Term-F, roll-Term, out-Term}
use Rattle.cond_terms.specs.declared.term.Term.TheVariants as term
use Rattle.cond_terms.specs.Exclusion.{is_and, is_and_at, IsConjunct, whole, in_first, in_second}
use Rattle.cond_terms.proofs.Induct.{TermCases, every_term}

-- whether a term is an And is seen at its layer
is_and_layer : (y : Term-F Term) → is_and (roll-Term y) ≡ is_and_at (made.map-Term Term Bool is_and y)
is_and_layer y = made.fold-roll-Term Bool is_and_at y

pub and_is_and : (a b : Term) → is_and (term.And a b) ≡ true
and_is_and a b = ap is_and (sym (term.rolls-And a b)) ∙ is_and_layer (Term-F.And a b)

pub true_is_none : is_and term.True ≡ false
true_is_none = ap is_and (sym term.rolls-True) ∙ is_and_layer Term-F.True

pub false_is_none : is_and term.False ≡ false
false_is_none = ap is_and (sym term.rolls-False) ∙ is_and_layer Term-F.False

pub lit_is_none : (l : Lit) → is_and (term.Lit l) ≡ false
lit_is_none l = ap is_and (sym (term.rolls-Lit l)) ∙ is_and_layer (Term-F.Lit l)

pub not_is_none : (a : Term) → is_and (term.Not a) ≡ false
not_is_none a = ap is_and (sym (term.rolls-Not a)) ∙ is_and_layer (Term-F.Not a)

pub or_is_none : (a b : Term) → is_and (term.Or a b) ≡ false
or_is_none a b = ap is_and (sym (term.rolls-Or a b)) ∙ is_and_layer (Term-F.Or a b)

-- a term that is no And isn't made by And
pub never_and : (s t a b : Term) → is_and s ≡ false → t ≡ s → t ≡ term.And a b → ⊥
never_and s t a b n f e = false≢true (sym n ∙ ap is_and (sym f ∙ e) ∙ and_is_and a b)

-- an And has one first and one second part
pub same_parts : (a b x y : Term) → term.And a b ≡ term.And x y → (a ≡ x) × (b ≡ y)
same_parts a b x y e =
    let rolled : roll-Term (Term-F.And a b) ≡ roll-Term (Term-F.And x y) = term.rolls-And a b ∙ e ∙ sym (term.rolls-And x y) in
    let layers : Term-F.And a b ≡ Term-F.And x y = sym (made.out-roll-Term (Term-F.And a b)) ∙ ap out-Term rolled ∙ made.out-roll-Term (Term-F.And x y) in
    (cc, cc)

-- some conjunct has a property
abbrev pub Some : (Term → Type 0) → Term → Type 0
Some P t = (c : Term) × IsConjunct c t × P c

pub some_first : (P : Term → Type 0) (a b : Term) → Some P a → Some P (term.And a b)
some_first P a b w = (w.0, in_first a b refl w.1, w.2)

pub some_second : (P : Term → Type 0) (a b : Term) → Some P b → Some P (term.And a b)
some_second P a b w = (w.0, in_second a b refl w.1, w.2)

-- a conjunct of an And is one of a part
pub in_a_part : (c a b t : Term) → t ≡ term.And a b → IsConjunct c t → IsConjunct c a ⊎ IsConjunct c b
in_a_part c a b t e (whole s n) = absurd (never_and t t a b n refl e)
in_a_part c a b t e (in_first x y f h) = inl (subst (IsConjunct c) (same_parts x y a b (sym f ∙ e)).0 h)
in_a_part c a b t e (in_second x y f h) = inr (subst (IsConjunct c) (same_parts x y a b (sym f ∙ e)).1 h)

pub some_split : (P : Term → Type 0) (a b : Term) → Some P (term.And a b) → Some P a ⊎ Some P b
some_split P a b w = elim (in_a_part w.0 a b _ refl w.1) [ inl h ↦ inl (w.0, h, w.2) | inr h ↦ inr (w.0, h, w.2) ]

-- of a term that is no And the only conjunct is the term itself
pub only_itself : (c t : Term) → is_and t ≡ false → IsConjunct c t → c ≡ t
only_itself c t n (whole e m) = e
only_itself c t n (in_first x y f h) = absurd (never_and t t x y n refl f)
only_itself c t n (in_second x y f h) = absurd (never_and t t x y n refl f)

pub some_whole : (P : Term → Type 0) (t : Term) → is_and t ≡ false → P t → Some P t
some_whole P t n p = (t, whole refl n, p)

pub whole_only : (P : Term → Type 0) (t : Term) → is_and t ≡ false → Some P t → P t
whole_only P t n w = subst P (only_itself w.0 t n w.1) w.2

-- a term that isn't made by And is no And
no_and_cases : TermCases (λ t. ((x y : Term) → t ≡ term.And x y → ⊥) → is_and t ≡ false)
no_and_cases = record {
  always = λ h. is_and_layer Term-F.True;
  never = λ h. is_and_layer Term-F.False;
  lit = λ l h. is_and_layer (Term-F.Lit l);
  not = λ t p h. is_and_layer (Term-F.Not t);
  both = λ s t p q h. absurd (h s t (term.rolls-And s t));
  either = λ s t p q h. is_and_layer (Term-F.Or s t);
}

pub no_and : (t : Term) → ((x y : Term) → t ≡ term.And x y → ⊥) → is_and t ≡ false
no_and = every_term no_and_cases

-- a test tells whether some conjunct has a property
abbrev pub Tells : (Term → Type 0) → Bool → Term → Type 0
Tells P r t = (r ≡ true → Some P t) × (Some P t → r ≡ true)

-- the test of an And by those of its parts
pub tells_by_first : (P : Term → Type 0) (r : Bool) (a b t s : Term) → t ≡ term.And a b → s ≡ a → Tells P r s → r ≡ true → Tells P r t
tells_by_first P r a b t s e f h holds =
    (λ _. subst (Some P) (sym e) (some_first P a b (subst (Some P) f (h.0 holds))), λ _. holds)

pub tells_by_second : (P : Term → Type 0) (q r : Bool) (a b t s u : Term) → t ≡ term.And a b → s ≡ a → Tells P q s → q ≡ false → u ≡ b → Tells P r u → Tells P r t
tells_by_second P q r a b t s u e f h off g k = (
  λ holds. subst (Some P) (sym e) (some_second P a b (subst (Some P) g (k.0 holds))),
  λ w. elim (some_split P a b (subst (Some P) e w)) [
    | inl x ↦ absurd (false≢true (sym off ∙ h.1 (subst (Some P) (sym f) x)))
    | inr x ↦ k.1 (subst (Some P) (sym g) x)
  ],
)

-- the test of any other term by that of the term itself
pub tells_itself : (P : Term → Type 0) (r : Bool) (t : Term) → ((x y : Term) → t ≡ term.And x y → ⊥) → (r ≡ true → P t) × (P t → r ≡ true) → Tells P r t
tells_itself P r t n h = (λ holds. some_whole P t (no_and t n) (h.0 holds), λ w. h.1 (whole_only P t (no_and t n) w))

-- the conjuncts that are a given term
pub as_some : (c t : Term) → IsConjunct c t → Some (λ d. c ≡ d) t
as_some c t w = (c, w, refl)

pub of_some : (c t : Term) → Some (λ d. c ≡ d) t → IsConjunct c t
of_some c t w = subst (λ z. IsConjunct z t) (sym w.2) w.1

pub tells_conjunct : (c t : Term) (r : Bool) → Tells (λ d. c ≡ d) r t → (r ≡ true → IsConjunct c t) × (IsConjunct c t → r ≡ true)
tells_conjunct c t r h = (λ holds. of_some c t (h.0 holds), λ w. h.1 (as_some c t w))

pub tells_some : (c t : Term) (r : Bool) → (r ≡ true → IsConjunct c t) × (IsConjunct c t → r ≡ true) → Tells (λ d. c ≡ d) r t
tells_some c t r h = (λ holds. as_some c t (h.0 holds), λ w. h.1 (of_some c t w))
