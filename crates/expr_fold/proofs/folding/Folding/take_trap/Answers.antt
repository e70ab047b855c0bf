use Rattle.std.proofs.Common.{◌≡◌, true, sym, ap, ◌∙◌, rules}
use Rattle.expr_fold.specs.Placed.{placed_word}
use Rattle.expr_fold.proofs.Stepping.{step_take_trap}
use Rattle.expr_fold.proofs.folding.Folding.take_trap.Goals as goal

pub returns : goal.returns
returns c =
    let done = c.in_ok-perform.ensures {u = tt} in
    let word = c.in_ok-word.ensures {u = tt} ∙ ap (λ p. placed_word p c.args.e.now) c.deref.ensures.value in
    let fits : c.word_fits.result ≡ true = search rules in
    λ t. step_take_trap c.args.vector c.args.e.now c.in_ok-word.word _ _ _ _ word (sym c.word_fits.ensures ∙ fits) done.done done.delayed
