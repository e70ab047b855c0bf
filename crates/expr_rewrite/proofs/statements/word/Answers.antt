use Rattle.std.proofs.Common.{sym, ◌∙◌}
use Rattle.expr_rewrite.proofs.Standing.{word_stands}
use Rattle.expr_rewrite.proofs.statements.word.Goals as goal

pub returns-then-word_fits : goal.returns-then-word_fits
returns-then-word_fits c = word_stands c.args.e.now c.in_ok-made.made c.in_ok-made.ensures.stands (sym c.word_fits.ensures ∙ c.if-word_fits.true)
