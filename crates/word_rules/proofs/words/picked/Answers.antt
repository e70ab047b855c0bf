use Rattle.std.proofs.lemmas.Result.{IfOk-weaker}
use Rattle.word_rules.proofs.OtherRules.{pick_of_equal, pick_built}
use Rattle.word_rules.proofs.words.picked.Goals as goal

pub returns-then-same_word : goal.returns-then-same_word
returns-then-same_word c = pick_of_equal c.args.t c.args.a c.args.b (c.same_word.ensures.0 c.if-same_word.true)

pub returns : goal.returns
returns c = IfOk-weaker c.pick.result _ _ (λ e i. pick_built c.args.t c.args.a c.args.b e i) c.pick.ensures
