use Rattle.std.proofs.Common.{subst}
use Rattle.std.proofs.lemmas.Result.{IfOk-weaker}
use Rattle.word_rules.specs.Turns.{MergesWith}
use Rattle.word_rules.proofs.Rules.{merged_after_equal}
use Rattle.word_rules.proofs.bins.after.Goals as goal

pub returns-in-Some : goal.returns-in-Some
returns-in-Some c =
    let with = subst (λ w. MergesWith c.args.inner w c.args.op c.args.k (c.in-Some.op, c.in-Some.k)) c.get.ensures c.in-Some.ensures in
    IfOk-weaker c.onto_number.result _ _ (λ e h. merged_after_equal c.args.inner c.args.op c.args.x c.into_inner.result c.args.y e c.args.k (c.in-Some.op, c.in-Some.k) c.into_inner.ensures with h) c.onto_number.ensures
