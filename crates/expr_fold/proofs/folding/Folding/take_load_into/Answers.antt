use Rattle.std.proofs.Common.{◌≡◌, ◌++◌, [], ◌∷◌, true, sym, ap, ◌∙◌, rules}
use Rattle.c_syntax.specs.declared.syntax.CExpr.TheVariants as expr
use Rattle.micro_ir.specs.declared.flow.Stmt.TheVariants as stmt
use Rattle.expr_fold.specs.declared.delayed.Delayed.{Delayed}
use Rattle.expr_fold.specs.Delayed.{none_reads}
use Rattle.expr_fold.specs.Placed.{placed_word}
use Rattle.expr_fold.proofs.Stepping.{step_take_into}
use Rattle.expr_fold.proofs.folding.Folding.take_load_into.Goals as goal

pub returns : goal.returns
returns c =
    let done = c.in_ok-perform.ensures {u = tt} in
    let late = c.in_ok-delay.ensures {u = tt} in
    let word = c.in_ok-word.ensures {u = tt} ∙ ap (λ p. placed_word p c.args.e.now) c.deref.ensures.value in
    let fits : c.word_fits.result ≡ true = search rules in
    let unread : c.none_reads.result ≡ true = search rules in
    let said : Delayed = record { name = c.args.t; word = expr.Name c.args.r } in
    λ t. step_take_into c.args.t c.args.r c.args.width c.args.e.now c.in_ok-word.word _ _ _ _ _ _ _ c.requires word (sym c.word_fits.ensures ∙ fits) c.forget.ensures.delayed c.forget-2.ensures.delayed
    (sym (c.none_reads.ensures ∙ ap (λ p. none_reads p c.args.r) c.deref-2.ensures.value) ∙ unread)
    (late.done ∙ done.done ∙ ap (λ x. x ++ stmt.Load c.args.r c.args.width c.in_ok-word.word ∷ []) (c.forget-2.ensures.done ∙ c.forget.ensures.done)) (sym (expr.rolls-Name c.args.r))
    (late.delayed ∙ ap (λ x. x ++ said ∷ []) done.delayed)
