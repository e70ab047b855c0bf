-- Terms whose common conjuncts are taken out.
use Rattle.std.specs.Prelude.{◌≡◌, ◌≢◌, ◌⊎◌, ◌+◌, ◌≤◌, true, ◌&&◌, ◌||◌}
use Rattle.cond_terms.specs.declared.term.Lit.{Lit}
use Rattle.cond_terms.specs.declared.term.Term.{Term}
use Rattle.cond_terms.specs.declared.term.Term.TheVariants as term
use Rattle.cond_terms.specs.Terms.{Valuation, term_truth, literals}
use Rattle.cond_terms.specs.Exclusion.{IsConjunct}

-- no term is a conjunct of both
abbrev pub ShareNone : Term → Term → Type 0
ShareNone s t = (c : Term) → IsConjunct c s → IsConjunct c t → ⊥

-- the parts of no Or in the term share a conjunct
pub data IsFactored : Term → Type 0 where
  always : {t : Term} → t ≡ term.True → IsFactored t
  never : {t : Term} → t ≡ term.False → IsFactored t
  literal : {t : Term} (l : Lit) → t ≡ term.Lit l → IsFactored t
  negated : {t : Term} (a : Term) → t ≡ term.Not a → IsFactored a → IsFactored t
  both : {t : Term} (a b : Term) → t ≡ term.And a b → IsFactored a → IsFactored b → IsFactored t
  either : {t : Term} (a b : Term) → t ≡ term.Or a b → ShareNone a b → IsFactored a → IsFactored b → IsFactored t

-- made is the And of a and b, where a True adds nothing
abbrev pub IsBeside : Term → Term → Term → Type 0
IsBeside a b made =
    ((a ≡ term.True) × (made ≡ b)) ⊎ (((b ≡ term.True) × (made ≡ a)) ⊎ ((a ≢ term.True) × (b ≢ term.True) × (made ≡ term.And a b)))

-- a property of each conjunct of a term that isn't True as a whole
abbrev pub Each : (Term → Type 0) → Term → Type 0
Each P t = t ≢ term.True → (c : Term) → IsConjunct c t → P c

-- The conjuncts of a term, parted into those that another term has too and its own; where there are none, True stands for them.
pub record IsParted (t other shared own : Term) : Type 0 where
  pub same_truth : (v : Valuation) → term_truth t v ≡ (term_truth shared v && term_truth own v)
  pub same_size : literals shared + literals own ≡ literals t
  pub shared_follows : (v : Valuation) → term_truth other v ≡ true → term_truth shared v ≡ true
  pub own_alone : Each (λ c. IsConjunct c other → ⊥) own
  pub own_kept : Each (λ c. IsConjunct c t) own
  pub factored : IsFactored t → IsFactored shared × IsFactored own

-- made is the Or of two terms, factored
pub record IsFactoredOr (a b made : Term) : Type 0 where
  pub same_truth : (v : Valuation) → term_truth made v ≡ (term_truth a v || term_truth b v)
  pub no_larger : literals made ≤ literals a + literals b
  pub factored : IsFactored a → IsFactored b → IsFactored made

-- made is the term, factored
pub record IsFactoredForm (t made : Term) : Type 0 where
  pub same_truth : (v : Valuation) → term_truth made v ≡ term_truth t v
  pub no_larger : literals made ≤ literals t
  pub factored : IsFactored made
