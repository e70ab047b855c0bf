use Rattle.std.proofs.Common.{refl, ap, ◌∙◌, subst}
use Rattle.std.proofs.lemmas.Result.{IfOk-weaker}
use Rattle.cond_terms.specs.declared.term.Term.TheVariants as term
use Rattle.cond_terms.specs.Factored.{IsFactoredForm}
use Rattle.cond_terms.proofs.Factoring.{form_true, form_false, form_literal, form_not, form_and, form_or}
use Rattle.cond_terms.proofs.factored.+factored.Goals as goal

pub returns-in-True : goal.returns-in-True
returns-in-True t c = form_true c.args.t.now _ c.in-True.is refl

pub returns-in-False : goal.returns-in-False
returns-in-False t c = form_false c.args.t.now _ c.in-False.is refl

pub returns-in-Lit : goal.returns-in-Lit
returns-in-Lit t c = form_literal c.args.t.now _ c.in-Lit.l c.in-Lit.is refl

pub returns-in_ok-new-in-Not : goal.returns-in_ok-new-in-Not
returns-in_ok-new-in-Not t c =
    let x = c.in_ok-factored-in-Not.field-0 in
    form_not c.args.t.now c.in-Not.a x _ c.in-Not.is (ap term.Not c.in_ok-new-in-Not.ensures) (subst (λ z. IsFactoredForm z x) c.get.ensures c.in_ok-factored-in-Not.ensures)

pub returns-in_ok-b-in-And : goal.returns-in_ok-b-in-And
returns-in_ok-b-in-And t c =
    let x = c.in_ok-factored-in-And.field-0 in
    let y = c.in_ok-factored-in-And-2.field-0 in
    form_and c.args.t.now c.in-And.a c.in-And.b x y _ c.in-And.is
    (ap (λ z. term.And z c.in_ok-b-in-And.b) c.in_ok-a-in-And.ensures ∙ ap (term.And x) c.in_ok-b-in-And.ensures)
    (subst (λ z. IsFactoredForm z x) c.get-in-And.ensures c.in_ok-factored-in-And.ensures)
    (subst (λ z. IsFactoredForm z y) c.get-in-And-2.ensures c.in_ok-factored-in-And-2.ensures)

pub returns-in_ok-b-in-Or : goal.returns-in_ok-b-in-Or
returns-in_ok-b-in-Or t c =
    let x = c.in_ok-a-in-Or.a in
    let y = c.in_ok-b-in-Or.b in
    IfOk-weaker c.factored_or.result _ _
    (λ m w. form_or c.args.t.now c.in-Or.a c.in-Or.b x y m c.in-Or.is
    (subst (λ z. IsFactoredForm z x) c.get-in-Or.ensures c.in_ok-a-in-Or.ensures)
    (subst (λ z. IsFactoredForm z y) c.get-in-Or-2.ensures c.in_ok-b-in-Or.ensures) w)
    c.factored_or.ensures
