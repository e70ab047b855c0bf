use Rattle.std.proofs.Common.{◌≡◌, true, refl, sym, ap, ◌∙◌, rules}
use Rattle.expr_fold.specs.Placed.{placed_word}
use Rattle.expr_fold.proofs.Stepping.{step_take_set, step_take_same}
use Rattle.expr_fold.proofs.folding.Folding.take_set.Goals as goal

pub returns-then-is_name : goal.returns-then-is_name
returns-then-is_name c =
    let word = c.in_ok-word.ensures {u = tt} ∙ ap (λ p. placed_word p c.args.e.now) c.deref.ensures.value in
    λ t. step_take_same c.args.n c.args.e.now c.in_ok-word.word _ _ _ _ _ word (c.is_name.ensures c.if-is_name.true) c.forget.ensures.delayed c.forget.ensures.done refl

pub returns : goal.returns
returns c =
    let done = c.in_ok-delay.ensures {u = tt} in
    let word = c.in_ok-word.ensures {u = tt} ∙ ap (λ p. placed_word p c.args.e.now) c.deref.ensures.value in
    let fits : c.word_fits.result ≡ true = search rules in
    λ t. step_take_set c.args.n c.args.e.now c.in_ok-word.word _ _ _ _ _ word (sym c.word_fits.ensures ∙ fits) c.forget.ensures.delayed (done.done ∙ c.forget.ensures.done) done.delayed
