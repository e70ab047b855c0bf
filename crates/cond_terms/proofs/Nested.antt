-- How deep terms are: variant by variant, and simple ones by their literals.
use Rattle.std.proofs.Common.{◌≡◌, inl, inr, ℕ, ◌+◌, ◌≤◌, max, sym, ap, ◌∙◌, arith}
use Rattle.cond_terms.specs.declared.term.Lit.{Lit}
use Rattle.cond_terms.specs.declared.term.Term as layer
use Rattle.cond_terms.specs.declared.term.Term.{Term, Term-F, roll-Term}
use Rattle.cond_terms.specs.declared.term.Term.TheVariants as term
use Rattle.cond_terms.specs.Terms.{literals}
use Rattle.cond_terms.specs.Nesting.{nesting, nesting_at, IsPlain}
use Rattle.cond_terms.proofs.Layers.{literals_true, literals_lit, literals_not}

nesting_layer : (y : Term-F Term) → nesting (roll-Term y) ≡ nesting_at (layer.map-Term Term ℕ nesting y)
nesting_layer y = layer.fold-roll-Term ℕ nesting_at y

pub nesting_true : nesting term.True ≡ 0
nesting_true = ap nesting (sym term.rolls-True) ∙ nesting_layer Term-F.True

pub nesting_false : nesting term.False ≡ 0
nesting_false = ap nesting (sym term.rolls-False) ∙ nesting_layer Term-F.False

pub nesting_lit : (l : Lit) → nesting (term.Lit l) ≡ 0
nesting_lit l = ap nesting (sym (term.rolls-Lit l)) ∙ nesting_layer (Term-F.Lit l)

pub nesting_not : (a : Term) → nesting (term.Not a) ≡ nesting a + 1
nesting_not a = ap nesting (sym (term.rolls-Not a)) ∙ nesting_layer (Term-F.Not a)

pub nesting_and : (a b : Term) → nesting (term.And a b) ≡ max (nesting a) (nesting b) + 1
nesting_and a b = ap nesting (sym (term.rolls-And a b)) ∙ nesting_layer (Term-F.And a b)

pub nesting_or : (a b : Term) → nesting (term.Or a b) ≡ max (nesting a) (nesting b) + 1
nesting_or a b = ap nesting (sym (term.rolls-Or a b)) ∙ nesting_layer (Term-F.Or a b)

-- a plain term has one literal at most
pub plain_is_small : (t : Term) → IsPlain t → literals t ≤ 1
plain_is_small t (inl e) = omega (arith, ap literals e, literals_true)
plain_is_small t (inr (l, inl e)) = omega (arith, ap literals e, literals_lit l)
plain_is_small t (inr (l, inr e)) = omega (arith, ap literals e, literals_not (term.Lit l), literals_lit l)
