use Rattle.std.proofs.Common.{sym, subst, ◌∙◌}
use Rattle.c_syntax.specs.declared.syntax.CCond.TheVariants as cond
use Rattle.c_conds.specs.Placed.{IsOpposite}
use Rattle.c_conds.proofs.Opposites.{opposite_not, opposite_if}
use Rattle.c_conds.proofs.opposite.opposite.Goals as goal

pub returns-in-Cmp : goal.returns-in-Cmp
returns-in-Cmp c = subst (λ t. IsOpposite t c.comparison.result) (cond.rolls-Cmp c.in-Cmp.op c.in-Cmp.a c.in-Cmp.b ∙ sym c.in-Cmp.is) c.comparison.ensures

pub returns-in-Not : goal.returns-in-Not
returns-in-Not c = subst (λ u. IsOpposite c.args.t u) (sym c.into_inner.ensures) (subst (λ t. IsOpposite t c.in-Not.t) (cond.rolls-Not c.in-Not.t ∙ sym c.in-Not.is) (opposite_not c.in-Not.t))

pub returns-in-And : goal.returns-in-And
returns-in-And c = opposite_if c.args.t _ c.cond_not.result c.in-And.is c.cond_not.ensures

pub returns-in-Or : goal.returns-in-Or
returns-in-Or c = opposite_if c.args.t _ c.cond_not-in-Or.result c.in-Or.is c.cond_not-in-Or.ensures
