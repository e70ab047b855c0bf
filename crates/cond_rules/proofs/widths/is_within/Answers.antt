use Rattle.std.proofs.lemmas.Bool.{leb-true}
use Rattle.cond_rules.proofs.Within.{covered_within}
use Rattle.cond_rules.proofs.widths.is_within.Goals as goal

pub returns : goal.returns
returns c = λ t. covered_within c.args.w c.args.e.now c.known.result c.greatest.result c.known.ensures c.greatest.ensures (leb-true _ _ t)
