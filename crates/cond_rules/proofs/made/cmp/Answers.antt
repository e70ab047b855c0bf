use Rattle.cond_rules.proofs.Replaced.{cmp_plain}
use Rattle.cond_rules.proofs.made.cmp.Goals as goal

pub returns-in-None : goal.returns-in-None
returns-in-None c = cmp_plain c.args.op c.args.a c.args.b
