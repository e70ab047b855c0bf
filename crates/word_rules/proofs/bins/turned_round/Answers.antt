use Rattle.std.proofs.lemmas.Result.{IfOk-weaker}
use Rattle.word_rules.proofs.Rules.{settles_exchanged}
use Rattle.word_rules.proofs.bins.turned_round.Goals as goal

pub returns-in-Some : goal.returns-in-Some
returns-in-Some c = IfOk-weaker c.with_number.result _ _ (λ e h. settles_exchanged c.args.op c.args.a c.args.b e c.in-Some.k c.requires.commutes c.in-Some.ensures h) c.with_number.ensures
