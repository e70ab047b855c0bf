-- The law is the lemma.
use Rattle.x86_model.proofs.Parts.{conditions_are_opposite}
use Rattle.x86_model.proofs.laws.conditions_are_opposite.Goals as goal

pub returns : goal.returns
returns c = conditions_are_opposite
