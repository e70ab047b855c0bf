-- How deep a term is.
use Rattle.std.specs.Prelude.{◌≡◌, ◌⊎◌, ℕ, ◌+◌, max}
use Rattle.cond_terms.specs.declared.term.Lit.{Lit}
use Rattle.cond_terms.specs.declared.term.Term.{Term, Term-F, fold-Term}
use Rattle.cond_terms.specs.declared.term.Term.TheVariants as term

abbrev pub nesting_at : Term-F ℕ → ℕ
nesting_at Term-F.True = 0
nesting_at Term-F.False = 0
nesting_at (Term-F.Lit l) = 0
nesting_at (Term-F.Not t) = t + 1
nesting_at (Term-F.And s t) = max s t + 1
nesting_at (Term-F.Or s t) = max s t + 1

-- how many And, Or and Not are nested in one another
abbrev pub nesting : Term → ℕ
nesting = fold-Term ℕ nesting_at

-- True, a literal or the Not of a literal
abbrev pub IsPlain : Term → Type 0
IsPlain t = (t ≡ term.True) ⊎ ((l : Lit) × ((t ≡ term.Lit l) ⊎ (t ≡ term.Not (term.Lit l))))
