use Rattle.std.proofs.lemmas.Result.{IfOk-weaker}
use Rattle.cond_rules.proofs.Negating.{negated_not, negated_and, negated_or}
use Rattle.cond_rules.proofs.negated.+negated.Goals as goal

pub returns-in-Not : goal.returns-in-Not
returns-in-Not t c =
    IfOk-weaker c.copy_cond.result _ _ (λ r e. negated_not c.args.t.now c.in-Not.t c.get.result.now r c.in-Not.is c.get.ensures e) c.copy_cond.ensures

pub returns-in_ok-u-in-And : goal.returns-in_ok-u-in-And
returns-in_ok-u-in-And t c =
    IfOk-weaker c.or.result _ _
    (λ r e. negated_and c.args.t.now c.in-And.t c.in-And.u c.get-in-And.result.now c.get-in-And-2.result.now c.in_ok-t-in-And.t c.in_ok-u-in-And.u r c.in-And.is c.get-in-And.ensures c.get-in-And-2.ensures
    c.in_ok-t-in-And.ensures c.in_ok-u-in-And.ensures e)
    c.or.ensures

pub returns-in_ok-u-in-Or : goal.returns-in_ok-u-in-Or
returns-in_ok-u-in-Or t c =
    IfOk-weaker c.and.result _ _
    (λ r e. negated_or c.args.t.now c.in-Or.t c.in-Or.u c.get-in-Or.result.now c.get-in-Or-2.result.now c.in_ok-t-in-Or.t c.in_ok-u-in-Or.u r c.in-Or.is c.get-in-Or.ensures c.get-in-Or-2.ensures
    c.in_ok-t-in-Or.ensures c.in_ok-u-in-Or.ensures e)
    c.and.ensures
