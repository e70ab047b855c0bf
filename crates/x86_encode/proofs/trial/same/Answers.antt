use Rattle.std.proofs.Common.{◌≡◌, true, sym, subst, ◌∙◌}
use Rattle.x86_encode.proofs.Equal.{same_inst, equal_inst, eq_inst}
use Rattle.x86_encode.proofs.trial.same.Goals as goal

pub returns : goal.returns
returns c = (
  λ t. same_inst c.args.i.now c.args.j.now (sym c.eq.ensures ∙ t),
  λ e. c.eq.ensures ∙ subst (λ j. eq_inst c.args.i.now j ≡ true) e (equal_inst c.args.i.now),
)
