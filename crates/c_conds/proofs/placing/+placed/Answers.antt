use Rattle.std.proofs.Common.{◌∙◌, sym, subst}
use Rattle.c_syntax.specs.declared.syntax.CCond.TheVariants as cond
use Rattle.c_conds.specs.Placed.{IsPlaced}
use Rattle.c_conds.proofs.Tests.{as_placed, not_if, and_if, or_if}
use Rattle.c_conds.proofs.placing.+placed.Goals as goal

pub returns-in-Cmp : goal.returns-in-Cmp
returns-in-Cmp t c = as_placed c.args.k c.args.c.now c.args.t.now _ c.placed_cmp.result (c.in-Cmp.is ∙ sym (cond.rolls-Cmp c.in-Cmp.op c.in-Cmp.a c.in-Cmp.b)) c.placed_cmp.ensures

pub returns-in_ok-u-in-Not : goal.returns-in_ok-u-in-Not
returns-in_ok-u-in-Not t c = not_if c.args.k c.args.c.now c.args.t.now c.in-Not.t c.in_ok-u-in-Not.u c.opposite.result (c.in-Not.is ∙ sym (cond.rolls-Not c.in-Not.t)) (subst (λ s. IsPlaced c.args.k c.args.c.now s c.in_ok-u-in-Not.u) c.get.ensures c.in_ok-u-in-Not.ensures) c.opposite.ensures

pub returns-in_ok-u-in-And : goal.returns-in_ok-u-in-And
returns-in_ok-u-in-And t c = and_if c.args.k c.args.c.now c.args.t.now c.in-And.t c.in-And.u c.in_ok-t-in-And.t c.in_ok-u-in-And.u c.and.result (c.in-And.is ∙ sym (cond.rolls-And c.in-And.t c.in-And.u)) (subst (λ s. IsPlaced c.args.k c.args.c.now s c.in_ok-t-in-And.t) c.get-in-And.ensures c.in_ok-t-in-And.ensures) (subst (λ s. IsPlaced c.args.k c.args.c.now s c.in_ok-u-in-And.u) c.get-in-And-2.ensures c.in_ok-u-in-And.ensures) c.and.ensures

pub returns-in_ok-u-in-Or : goal.returns-in_ok-u-in-Or
returns-in_ok-u-in-Or t c = or_if c.args.k c.args.c.now c.args.t.now c.in-Or.t c.in-Or.u c.in_ok-t-in-Or.t c.in_ok-u-in-Or.u c.or.result (c.in-Or.is ∙ sym (cond.rolls-Or c.in-Or.t c.in-Or.u)) (subst (λ s. IsPlaced c.args.k c.args.c.now s c.in_ok-t-in-Or.t) c.get-in-Or.ensures c.in_ok-t-in-Or.ensures) (subst (λ s. IsPlaced c.args.k c.args.c.now s c.in_ok-u-in-Or.u) c.get-in-Or-2.ensures c.in_ok-u-in-Or.ensures) c.or.ensures
