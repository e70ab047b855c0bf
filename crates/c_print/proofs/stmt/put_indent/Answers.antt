use Rattle.std.proofs.Common.{◌*◌, ◌∷◌, [], replicate, ap, sym, ◌∙◌}
use Rattle.c_print.specs.Page.{puts}
use Rattle.c_print.proofs.Shows.{then}
use Rattle.c_print.proofs.Loops.{blanks_more}
use Rattle.c_print.proofs.stmt.put_indent.Goals as goal

pub loop-step-preserved : goal.loop-step-preserved
loop-step-preserved c =
    then _ _ _ (replicate (2 * c.loop-step._step) 32) (32 ∷ 32 ∷ []) c.loop-step.invariant c.put.ensures ∙ ap (puts c.args.page.now) (sym (blanks_more c.loop-step._step))
