use Rattle.word_rules.proofs.Covered.{covered_by_wider}
use Rattle.word_rules.proofs.bins.covers.Goals as goal

pub returns : goal.returns
returns c = covered_by_wider c.args.a.now c.known-mask.result c.args.k c.known-mask.ensures
