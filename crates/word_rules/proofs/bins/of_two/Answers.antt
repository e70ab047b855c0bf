use Rattle.std.proofs.lemmas.Result.{IfOk-weaker}
use Rattle.word_rules.proofs.Rules.{of_two_built}
use Rattle.word_rules.proofs.bins.of_two.Goals as goal

pub returns : goal.returns
returns c = IfOk-weaker c.bin.result _ _ (λ e i. of_two_built c.args.op c.args.a c.args.b e c.requires i) c.bin.ensures
