use Rattle.std.proofs.Common.{inr}
use Rattle.cond_terms.proofs.Excluding.{apart}
use Rattle.cond_terms.proofs.exclusion.exclusive.Goals as goal

pub returns-else-is_false-2-clause-apart : goal.returns-else-is_false-2-clause-apart
returns-else-is_false-2-clause-apart c = λ h v p q. apart c.args.a.now c.args.b.now (inr (inr (c.have_contradiction.ensures.0 h))) v p q
