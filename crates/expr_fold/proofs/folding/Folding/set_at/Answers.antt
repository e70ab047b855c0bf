use Rattle.std.proofs.Common.{Vec, Global, ◌++◌, [], ◌∷◌, ap, ◌∙◌, subst}
use Rattle.std.specs.Prelude.{IfSome}
use Rattle.micro_ir.specs.declared.flow.Stmt.TheVariants as stmt
use Rattle.expr_fold.specs.declared.delayed.Delayed.{Delayed}
use Rattle.expr_fold.specs.Said.{AreSaid}
use Rattle.expr_fold.proofs.Stepping.{step_set, step_back}
use Rattle.expr_fold.proofs.folding.Folding.set_at.Goals as goal

pub returns-in_ok-perform-in-Some : goal.returns-in_ok-perform-in-Some
returns-in_ok-perform-in-Some c =
    let done = c.in_ok-perform-in-Some.ensures {u = tt} in
    let d = c.take_out-d.result in
    let given = c.deref.result.now in
    let said = subst (λ o. IfSome o (λ (q : Vec Delayed Global). AreSaid d given q.items)) c.in-Some.is (c.in_ok-delayed.ensures {u = tt}) in
    step_set _ _ c.args.at d _ c.in-Some.delayed.items _ _ c.take_out-d.ensures.item c.take_out-d.ensures.delayed
    (subst (λ p. AreSaid d p c.in-Some.delayed.items) c.deref.ensures.value said) (done.done ∙ ap (λ x. x ++ stmt.Set d.name d.word ∷ []) c.take_out-d.ensures.done) done.delayed

pub returns-in_ok-delay-in-None : goal.returns-in_ok-delay-in-None
returns-in_ok-delay-in-None c =
    let done = c.in_ok-delay-in-None.ensures {u = tt} in
    step_back _ _ c.args.at c.take_out-d.result _ _ _ c.take_out-d.ensures.item c.take_out-d.ensures.delayed (done.done ∙ c.take_out-d.ensures.done) done.delayed
