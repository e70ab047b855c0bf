use Rattle.std.proofs.Common.{◌≡◌, true, sym, ap, ◌∙◌, rules}
use Rattle.expr_fold.specs.Delayed.{are_flags}
use Rattle.expr_fold.specs.Placed.{placed_word}
use Rattle.expr_fold.proofs.Stepping.{step_take_call}
use Rattle.expr_fold.proofs.folding.Folding.take_call.Goals as goal

pub returns : goal.returns
returns c =
    let done = c.in_ok-perform.ensures {u = tt} in
    let word = c.in_ok-word.ensures {u = tt} ∙ ap (λ p. placed_word p c.args.e.now) c.deref.ensures.value in
    let fits : c.word_fits.result ≡ true = search rules in
    let flags : c.are_flags.result ≡ true = search rules in
    λ t. step_take_call c.args.e.now c.in_ok-word.word _ _ _ _ word (sym c.word_fits.ensures ∙ fits) (sym (c.are_flags.ensures ∙ ap are_flags c.deref-2.ensures.value) ∙ flags) done.done (done.delayed ∙ c.new.ensures.items)
