-- What a reader expects of the truth of terms.
use Rattle.std.specs.Prelude.{◌≡◌, ℕ, true, false, not}
use Rattle.cond_terms.specs.declared.term.Lit.TheVariants as lit
use Rattle.cond_terms.specs.declared.term.Term.{Term, Term-F, roll-Term}
use Rattle.cond_terms.specs.Terms.{Valuation, term_truth, literals}

pub record TermsMeanSo : Type 0 where
  -- a variable that is 0 isn't set; any other is
  pub zero_is_unset : (v : Valuation) (x : ℕ) → v x ≡ 0 → term_truth (roll-Term (Term-F.Lit (lit.Bool x))) v ≡ false
  -- a variable is equal to the word that it has
  pub equal_to_itself : (v : Valuation) (x : ℕ) → term_truth (roll-Term (Term-F.Lit (lit.Eq x (v x)))) v ≡ true
  -- a term and its Not exclude each other
  pub not_turns : (t : Term) (v : Valuation) → term_truth (roll-Term (Term-F.Not t)) v ≡ not (term_truth t v)
  -- And is false where a part is, Or is true where a part is
  pub and_is_false : (s t : Term) (v : Valuation) → term_truth t v ≡ false → term_truth (roll-Term (Term-F.And s t)) v ≡ false
  pub or_is_true : (s t : Term) (v : Valuation) → term_truth t v ≡ true → term_truth (roll-Term (Term-F.Or s t)) v ≡ true
  -- Not (s and t) is (not s) or (not t)
  pub turned_and : (s t : Term) (v : Valuation) → term_truth (roll-Term (Term-F.Not (roll-Term (Term-F.And s t)))) v
      ≡ term_truth (roll-Term (Term-F.Or (roll-Term (Term-F.Not s)) (roll-Term (Term-F.Not t)))) v
  -- True has no literals
  pub constants_are_bare : literals (roll-Term Term-F.True) ≡ 0
