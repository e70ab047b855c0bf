use Rattle.std.proofs.lemmas.Result.{IfOk-weaker}
use Rattle.word_rules.proofs.Rules.{settles_to}
use Rattle.word_rules.proofs.OtherRules.{fn1_of_number, fn1_built}
use Rattle.word_rules.proofs.words.of_one.Goals as goal

pub returns-in-Some : goal.returns-in-Some
returns-in-Some c = settles_to _ _ _ c.num.ensures (fn1_of_number c.args.f c.args.a c.in-Some.n c.apply.result c.in-Some.ensures c.apply.ensures c.apply.type_inv)

pub returns : goal.returns
returns c = IfOk-weaker c.fn1.result _ _ (λ e i. fn1_built c.args.f c.args.a e i) c.fn1.ensures
