use Rattle.cond_rules.proofs.Negating.{not_made}
use Rattle.cond_rules.proofs.made.not.Goals as goal

pub returns : goal.returns
returns c = not_made c.args.t c.in_ok-made.made c.in_ok-made.ensures
