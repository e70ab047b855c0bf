use Rattle.std.proofs.Common.{inl, inr, sym, ap, ◌∙◌, subst}
use Rattle.std.proofs.lemmas.Bool.{false≢true}
use Rattle.std.proofs.lemmas.Result.{IfOk-weaker}
use Rattle.cond_terms.specs.declared.term.Term.TheVariants as term
use Rattle.cond_terms.specs.Factored.{IsBeside}
use Rattle.cond_terms.proofs.Factoring.{all_shared, some_left}
use Rattle.cond_terms.proofs.factored.factored_or.Goals as goal
use Rattle.cond_terms.proofs.factored.factored_or.Goals.{then-is_true-via-then-is_true, then-is_true-via-else-is_true+then-is_true-2}

pub returns-then-is_true : goal.returns-then-is_true
returns-then-is_true c =
    let x = c.in_ok-shared.field-0 in
    let y = c.in_ok-second.field-0 in
    all_shared c.args.a c.args.b x.shared x.own y.shared y.own c.in_ok-shared.ensures c.in_ok-second.ensures
    (elim c.then-is_true.branch [
      | then-is_true-via-then-is_true w ↦ inl (c.is_true.ensures.0 w.if-is_true.true)
      | then-is_true-via-else-is_true+then-is_true-2 w ↦ inr (w.is_true-else-is_true.ensures.0 w.if-is_true-2.true)
    ])

pub returns : goal.returns
returns c =
    let x = c.in_ok-shared.field-0 in
    let y = c.in_ok-second.field-0 in
    IfOk-weaker c.beside.result _ _
    (λ m w. some_left c.args.a c.args.b x.shared x.own y.shared y.own m c.in_ok-shared.ensures c.in_ok-second.ensures
    (λ e. false≢true (sym c.if-is_true.false ∙ c.is_true.ensures.1 e))
    (λ e. false≢true (sym c.if-is_true-2.false ∙ c.is_true-else-is_true.ensures.1 e))
    (subst (λ z. IsBeside x.shared z m) (ap (λ z. term.Or z c.in_ok-second-2.second) c.in_ok-first.ensures ∙ ap (term.Or x.own) c.in_ok-second-2.ensures) w))
    c.beside.ensures
