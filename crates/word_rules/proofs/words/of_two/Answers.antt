use Rattle.std.proofs.lemmas.Result.{IfOk-weaker}
use Rattle.word_rules.proofs.Rules.{settles_to}
use Rattle.word_rules.proofs.OtherRules.{fn2_of_numbers, fn2_built}
use Rattle.word_rules.proofs.words.of_two.Goals as goal

pub returns-in-Some-number : goal.returns-in-Some-number
returns-in-Some-number c = settles_to _ _ _ c.num.ensures (fn2_of_numbers c.args.f c.args.a c.args.b c.in-Some.x c.in-Some-number.y c.apply.result c.in-Some.ensures c.in-Some-number.ensures c.apply.ensures c.apply.type_inv)

pub returns : goal.returns
returns c = IfOk-weaker c.fn2.result _ _ (λ e i. fn2_built c.args.f c.args.a c.args.b e i) c.fn2.ensures
