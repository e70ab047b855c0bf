use Rattle.std.proofs.Common.{sym, ◌∙◌}
use Rattle.expr_rewrite.proofs.Standing.{cond_stands}
use Rattle.expr_rewrite.proofs.statements.cond.Goals as goal

pub returns-then-cond_fits : goal.returns-then-cond_fits
returns-then-cond_fits c = cond_stands c.args.t.now c.in_ok-made.made c.in_ok-made.ensures.stands (sym c.cond_fits.ensures ∙ c.if-cond_fits.true)
