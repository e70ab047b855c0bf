use Rattle.std.proofs.Common.{◌≡◌, sym, ◌∙◌, arith, rules}
use Rattle.word_rules.proofs.Effects.{twice_merges}
use Rattle.word_rules.proofs.operators.merged.Goals as goal

pub returns-in-Some : goal.returns-in-Some
returns-in-Some c =
    let same : c.args.inner ≡ c.args.op = search rules in
    twice_merges c.args.inner c.args.op c.args.j c.args.k c.in-Some.m same (omega arith) (omega arith) (sym c.twice.ensures ∙ c.in-Some.is)
