-- Terms that are as simple as their parts allow.
use Rattle.std.specs.Prelude.{◌≡◌, ◌≢◌, ◌⊎◌, ◌+◌, ◌≤◌, max, Bool, true, false, not, ◌&&◌, ◌||◌}
use Rattle.cond_terms.specs.declared.term.Lit.{Lit}
use Rattle.cond_terms.specs.declared.term.Term.{Term, Term-F, fold-Term}
use Rattle.cond_terms.specs.declared.term.Term.TheVariants as term
use Rattle.cond_terms.specs.Terms.{Valuation, term_truth, literals}
use Rattle.cond_terms.specs.Nesting.{nesting}

-- True or False
abbrev pub constant : Bool → Term
constant true = term.True
constant false = term.False

abbrev pub turned_at : Term-F (Bool → Term) → Bool → Term
turned_at Term-F.True holds = constant holds
turned_at Term-F.False holds = constant (not holds)
turned_at (Term-F.Lit l) true = term.Lit l
turned_at (Term-F.Lit l) false = term.Not (term.Lit l)
turned_at (Term-F.Not t) holds = t (not holds)
turned_at (Term-F.And s t) true = term.And (s true) (t true)
turned_at (Term-F.And s t) false = term.Or (s false) (t false)
turned_at (Term-F.Or s t) true = term.Or (s true) (t true)
turned_at (Term-F.Or s t) false = term.And (s false) (t false)

-- the term, or where false is asked for its negation, with each Not pushed down to the literals
abbrev pub turned : Term → Bool → Term
turned = fold-Term (Bool → Term) turned_at

-- two parts that make neither the one of them nor a constant: they are not equal, and not each other's negation
pub record AreUnlike (s t : Term) : Type 0 where
  pub different : s ≢ t
  pub not_opposite : t ≢ turned s false

-- a term without constants, with Not on literals alone, in which the parts of each And and Or are unlike
pub data IsInner : Term → Type 0 where
  literal : {t : Term} (l : Lit) → t ≡ term.Lit l → IsInner t
  negated : {t : Term} (l : Lit) → t ≡ term.Not (term.Lit l) → IsInner t
  both : {t : Term} (a b : Term) → t ≡ term.And a b → AreUnlike a b → IsInner a → IsInner b → IsInner t
  either : {t : Term} (a b : Term) → t ≡ term.Or a b → AreUnlike a b → IsInner a → IsInner b → IsInner t

-- True or False as the whole, or a term without constants
abbrev pub IsSimple : Term → Type 0
IsSimple t = (t ≡ term.True) ⊎ ((t ≡ term.False) ⊎ IsInner t)

-- a truth, or its turn
abbrev pub told : Bool → Bool → Bool
told true b = b
told false b = not b

-- both, or one of two truths
abbrev pub joint : Bool → Bool → Bool → Bool
joint true a b = a && b
joint false a b = a || b

-- made is the And, or where false is asked for the Or, of a and b, made simple
pub record IsJoined (all : Bool) (a b made : Term) : Type 0 where
  pub same_truth : (v : Valuation) → term_truth made v ≡ joint all (term_truth a v) (term_truth b v)
  pub no_larger : literals made ≤ literals a + literals b
  pub no_deeper : nesting made ≤ max (nesting a) (nesting b) + 1
  pub simple : IsSimple a → IsSimple b → IsSimple made

-- made is the term, or where false is asked for its negation, made simple
pub record IsSimplified (t : Term) (holds : Bool) (made : Term) : Type 0 where
  pub same_truth : (v : Valuation) → term_truth made v ≡ told holds (term_truth t v)
  pub no_larger : literals made ≤ literals t
  pub simple : IsSimple made
