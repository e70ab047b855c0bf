use Rattle.dream_top.proofs.Causes.{no_refusal_without_cause}
use Rattle.dream_top.proofs.laws.no_refusal_without_cause.Goals as goal

pub returns : goal.returns
returns c = no_refusal_without_cause
