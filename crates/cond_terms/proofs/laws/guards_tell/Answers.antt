use Rattle.cond_terms.proofs.Guarding as guarding
use Rattle.cond_terms.proofs.laws.guards_tell.Goals as goal

pub returns : goal.returns
returns c = guarding.guards_tell
