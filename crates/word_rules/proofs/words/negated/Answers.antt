use Rattle.std.proofs.lemmas.Result.{IfOk-weaker}
use Rattle.word_rules.proofs.OtherRules.{negation_of_negation, negation_built}
use Rattle.word_rules.proofs.words.negated.Goals as goal

pub returns-in-Not : goal.returns-in-Not
returns-in-Not c = negation_of_negation c.args.t c.in-Not.t c.into_inner.result c.in-Not.is c.into_inner.ensures

pub returns-in_default : goal.returns-in_default
returns-in_default c = IfOk-weaker c.cond_not.result _ _ (λ e i. negation_built c.args.t e c.in_default.not-Not i) c.cond_not.ensures
