-- The truth of a term, and how many literals it has.
use Rattle.std.specs.Prelude.{ℕ, ◌+◌, nat_eq, Bool, true, false, not, ◌&&◌, ◌||◌}
use Rattle.cond_terms.specs.declared.term.Lit.{Lit}
use Rattle.cond_terms.specs.declared.term.Lit.TheVariants as lit
use Rattle.cond_terms.specs.declared.term.Term.{Term, Term-F, fold-Term}

-- the word of each variable, by its number
abbrev pub Valuation : Type 0
Valuation = ℕ → ℕ

-- a literal is true where its variable isn't 0, and where its variable is the word
abbrev pub lit_truth : Lit → Valuation → Bool
lit_truth (lit.Bool x) v = not (nat_eq (v x) 0)
lit_truth (lit.Eq x n) v = nat_eq (v x) n

abbrev pub truth_at : Term-F (Valuation → Bool) → Valuation → Bool
truth_at Term-F.True v = true
truth_at Term-F.False v = false
truth_at (Term-F.Lit l) v = lit_truth l v
truth_at (Term-F.Not t) v = not (t v)
truth_at (Term-F.And s t) v = s v && t v
truth_at (Term-F.Or s t) v = s v || t v

-- the truth of a term under a valuation
abbrev pub term_truth : Term → Valuation → Bool
term_truth = fold-Term (Valuation → Bool) truth_at

abbrev pub literals_at : Term-F ℕ → ℕ
literals_at Term-F.True = 0
literals_at Term-F.False = 0
literals_at (Term-F.Lit l) = 1
literals_at (Term-F.Not t) = t
literals_at (Term-F.And s t) = s + t
literals_at (Term-F.Or s t) = s + t

-- the number of literals in a term, each counted where it stands
abbrev pub literals : Term → ℕ
literals = fold-Term ℕ literals_at
