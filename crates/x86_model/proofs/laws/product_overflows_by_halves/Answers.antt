-- The law is the lemma.
use Rattle.x86_model.proofs.Halves.{product_overflows_by_halves}
use Rattle.x86_model.proofs.laws.product_overflows_by_halves.Goals as goal

pub returns : goal.returns
returns c = product_overflows_by_halves
