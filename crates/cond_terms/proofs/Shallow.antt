-- Simple terms are no deeper than they have literals.
use Rattle.std.proofs.Common.{inl, inr, ◌≤◌, ap, arith}
use Rattle.cond_terms.specs.declared.term.Term.{Term}
use Rattle.cond_terms.specs.declared.term.Term.TheVariants as term
use Rattle.cond_terms.specs.Terms.{literals}
use Rattle.cond_terms.specs.Nesting.{nesting}
use Rattle.cond_terms.specs.Simple.{IsInner, literal, negated, both, either, IsSimple}
use Rattle.cond_terms.proofs.Layers.{literals_lit, literals_not, literals_and, literals_or}
use Rattle.cond_terms.proofs.Nested.{nesting_true, nesting_false, nesting_lit, nesting_not, nesting_and, nesting_or}

-- a term without constants has a literal
inner_has_one : (t : Term) → IsInner t → 1 ≤ literals t
inner_has_one t (literal l e) = omega (arith, ap literals e, literals_lit l)
inner_has_one t (negated l e) = omega (arith, ap literals e, literals_not (term.Lit l), literals_lit l)
inner_has_one t (both a b e u p q) = omega (arith, ap literals e, literals_and a b, inner_has_one a p)
inner_has_one t (either a b e u p q) = omega (arith, ap literals e, literals_or a b, inner_has_one a p)

inner_is_shallow : (t : Term) → IsInner t → nesting t ≤ literals t
inner_is_shallow t (literal l e) = omega (arith, ap nesting e, nesting_lit l)
inner_is_shallow t (negated l e) = omega (arith, ap nesting e, nesting_not (term.Lit l), nesting_lit l, ap literals e, literals_not (term.Lit l), literals_lit l)
inner_is_shallow t (both a b e u p q) =
    omega (arith, ap nesting e, nesting_and a b, ap literals e, literals_and a b, inner_is_shallow a p, inner_is_shallow b q, inner_has_one a p, inner_has_one b q)
inner_is_shallow t (either a b e u p q) =
    omega (arith, ap nesting e, nesting_or a b, ap literals e, literals_or a b, inner_is_shallow a p, inner_is_shallow b q, inner_has_one a p, inner_has_one b q)

pub simple_is_shallow : (t : Term) → IsSimple t → nesting t ≤ literals t
simple_is_shallow t (inl e) = omega (arith, ap nesting e, nesting_true)
simple_is_shallow t (inr (inl e)) = omega (arith, ap nesting e, nesting_false)
simple_is_shallow t (inr (inr p)) = inner_is_shallow t p
