use Rattle.std.proofs.Common.{◌≡◌, true, sym, ap, ◌∙◌, rules}
use Rattle.expr_fold.specs.Placed.{placed_word}
use Rattle.expr_fold.proofs.Stepping.{step_take_store}
use Rattle.expr_fold.proofs.folding.Folding.take_store.Goals as goal

pub returns : goal.returns
returns c =
    let done = c.in_ok-perform.ensures {u = tt} in
    let place = c.in_ok-place.ensures {u = tt} ∙ ap (λ p. placed_word p c.args.e.now) c.deref.ensures.value in
    let word = c.in_ok-word.ensures {u = tt} ∙ ap (λ p. placed_word p c.args.f.now) c.deref-2.ensures.value in
    let fits : c.word_fits.result ≡ true = search rules in
    let fits2 : c.word_fits-2.result ≡ true = search rules in
    λ t. step_take_store c.args.width c.args.e.now c.args.f.now c.in_ok-place.place c.in_ok-word.word _ _ _ _ place word (sym c.word_fits.ensures ∙ fits) (sym c.word_fits-2.ensures ∙ fits2) done.done done.delayed
