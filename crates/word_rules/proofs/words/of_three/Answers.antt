use Rattle.std.proofs.lemmas.Result.{IfOk-weaker}
use Rattle.word_rules.proofs.Rules.{settles_to}
use Rattle.word_rules.proofs.OtherRules.{fn3_of_numbers, fn3_built}
use Rattle.word_rules.proofs.words.of_three.Goals as goal

pub returns-in-Some-number-2 : goal.returns-in-Some-number-2
returns-in-Some-number-2 c =
    settles_to _ _ _ c.num.ensures
    (fn3_of_numbers c.args.f c.args.a c.args.b c.args.c c.in-Some.x c.in-Some-number.y c.in-Some-number-2.z c.apply.result c.in-Some.ensures c.in-Some-number.ensures c.in-Some-number-2.ensures c.apply.ensures c.apply.type_inv)

pub returns : goal.returns
returns c = IfOk-weaker c.fn3.result _ _ (λ e i. fn3_built c.args.f c.args.a c.args.b c.args.c e i) c.fn3.ensures
