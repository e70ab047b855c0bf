use Rattle.std.proofs.Common.{sym, ◌∙◌}
use Rattle.std.proofs.lemmas.Result.{IfOk-weaker}
use Rattle.word_rules.proofs.Rules.{settles_to, of_equal_nought, of_equal_first, of_two_built}
use Rattle.word_rules.proofs.bins.of_equal.Goals as goal

pub returns-then-cancels : goal.returns-then-cancels
returns-then-cancels c = settles_to _ _ _ c.num.ensures (of_equal_nought c.args.op c.args.a c.args.b c.requires.equal (sym c.cancels.ensures ∙ c.if-cancels.true))

pub returns-then-absorbs : goal.returns-then-absorbs
returns-then-absorbs c = of_equal_first c.args.op c.args.a c.args.b c.requires.equal (sym c.absorbs.ensures ∙ c.if-absorbs.true)

pub returns : goal.returns
returns c = IfOk-weaker c.bin.result _ _ (λ e i. of_two_built c.args.op c.args.a c.args.b e c.requires.number i) c.bin.ensures
