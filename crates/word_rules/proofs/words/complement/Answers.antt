use Rattle.std.proofs.Common.{refl}
use Rattle.std.proofs.lemmas.Result.{IfOk-weaker}
use Rattle.word_rules.proofs.OtherRules.{not_of_number, not_of_not, not_built}
use Rattle.word_rules.proofs.words.complement.Goals as goal

pub returns-in-Num : goal.returns-in-Num
returns-in-Num c = not_of_number c.args.a _ c.in-Num.n _ c.in-Num.is refl refl

pub returns-in-Not : goal.returns-in-Not
returns-in-Not c = not_of_not c.args.a c.in-Not.a c.into_inner.result c.in-Not.is c.into_inner.ensures

pub returns-in_default : goal.returns-in_default
returns-in_default c = IfOk-weaker c.word_not.result _ _ (λ e i. not_built c.args.a e c.in_default.not-Num c.in_default.not-Not i) c.word_not.ensures
