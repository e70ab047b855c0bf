-- Induction over terms: one field a variant.
use Rattle.std.proofs.Common.{subst}
use Rattle.cond_terms.specs.declared.term.Lit.{Lit}
use Rattle.cond_terms.specs.declared.term.Term as term
use Rattle.cond_terms.specs.declared.term.Term.{Term, Term-F, roll-Term, ind-Term}

-- what is to be shown of each variant of a term
pub record TermCases (P : Term → Type 0) : Type 0 where
  pub always : P (roll-Term Term-F.True)
  pub never : P (roll-Term Term-F.False)
  pub lit : (l : Lit) → P (roll-Term (Term-F.Lit l))
  pub not : (t : Term) → P t → P (roll-Term (Term-F.Not t))
  pub both : (s t : Term) → P s → P t → P (roll-Term (Term-F.And s t))
  pub either : (s t : Term) → P s → P t → P (roll-Term (Term-F.Or s t))

module _ (P : Term → Type 0) (cases : TermCases P) (X : Type 0) (f : X → Term) (p : (x : X) → P (f x)) where
  -- each layer is one of the variants
  term_layer : (y : Term-F X) → P (roll-Term (term.map-Term X Term f y))
  term_layer Term-F.True = cases.always
  term_layer Term-F.False = cases.never
  term_layer (Term-F.Lit l) = cases.lit l
  term_layer (Term-F.Not t) = cases.not (f t) (p t)
  term_layer (Term-F.And s t) = cases.both (f s) (f t) (p s) (p t)
  term_layer (Term-F.Or s t) = cases.either (f s) (f t) (p s) (p t)

-- what holds at each variant holds of every term
pub every_term : {P : Term → Type 0} → TermCases P → (t : Term) → P t
every_term {P} cases t = ind-Term P (λ x y h. subst (λ z. P (roll-Term z)) h (term_layer P cases _ (λ e'. e'.0) (λ e'. e'.1) y)) t
