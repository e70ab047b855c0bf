-- The law is the lemma.
use Rattle.x86_model.proofs.Strays.{strays_so}
use Rattle.x86_model.proofs.laws.strays_so.Goals as goal

pub returns : goal.returns
returns c = strays_so
