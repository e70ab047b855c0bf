-- When two terms exclude each other by what is seen at their tops.
use Rattle.std.specs.Prelude.{◌≡◌, ◌≢◌, ◌⊎◌, Bool, true, false}
use Rattle.cond_terms.specs.declared.term.Lit.{Lit}
use Rattle.cond_terms.specs.declared.term.Lit.TheVariants as lit
use Rattle.cond_terms.specs.declared.term.Term.{Term, Term-F, out-Term, fold-Term}
use Rattle.cond_terms.specs.declared.term.Term.TheVariants as term

abbrev pub is_and_at : Term-F Bool → Bool
is_and_at Term-F.True = false
is_and_at Term-F.False = false
is_and_at (Term-F.Lit l) = false
is_and_at (Term-F.Not t) = false
is_and_at (Term-F.And s t) = true
is_and_at (Term-F.Or s t) = false

-- a term is an And
abbrev pub is_and : Term → Bool
is_and = fold-Term Bool is_and_at

-- The conjuncts of a term: those of both parts of an And; of any other term the term itself.
pub data IsConjunct (c : Term) : Term → Type 0 where
  whole : {t : Term} → c ≡ t → is_and t ≡ false → IsConjunct c t
  in_first : {t : Term} (a b : Term) → t ≡ term.And a b → IsConjunct c a → IsConjunct c t
  in_second : {t : Term} (a b : Term) → t ≡ term.And a b → IsConjunct c b → IsConjunct c t

-- two literals ask for different values of one variable
abbrev pub AskDifferently : Lit → Lit → Type 0
AskDifferently (lit.Eq x n) (lit.Eq y m) = (x ≡ y) × (n ≢ m)
AskDifferently (lit.Eq x n) (lit.Bool y) = ⊥
AskDifferently (lit.Bool x) m = ⊥

abbrev pub ContradictAt : Term-F Term → Term-F Term → Type 0
ContradictAt (Term-F.Lit l) (Term-F.Not t) = t ≡ term.Lit l
ContradictAt (Term-F.Not t) (Term-F.Lit l) = t ≡ term.Lit l
ContradictAt (Term-F.Lit l) (Term-F.Lit m) = AskDifferently l m
ContradictAt _ _ = ⊥

-- a literal and its Not contradict each other, and so do two values of one variable
abbrev pub Contradict : Term → Term → Type 0
Contradict c d = ContradictAt (out-Term c) (out-Term d)

-- a conjunct of a term contradicts c
abbrev pub IsContradicted : Term → Term → Type 0
IsContradicted c t = (d : Term) × IsConjunct d t × Contradict c d

-- a conjunct of the one and a conjunct of the other contradict each other
abbrev pub HaveContradiction : Term → Term → Type 0
HaveContradiction s t = (c : Term) × IsConjunct c s × IsContradicted c t

-- two terms exclude each other: one of them is False, or they have a contradiction
abbrev pub AreExclusive : Term → Term → Type 0
AreExclusive s t = (s ≡ term.False) ⊎ ((t ≡ term.False) ⊎ HaveContradiction s t)
