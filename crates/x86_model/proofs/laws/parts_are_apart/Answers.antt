-- The laws are the lemmas.
use Rattle.x86_model.proofs.Parts.{parts_read_back, parts_are_apart}
use Rattle.x86_model.proofs.laws.parts_are_apart.Goals as goal

pub returns-clause-read_back : goal.returns-clause-read_back
returns-clause-read_back c = parts_read_back

pub returns-clause-apart : goal.returns-clause-apart
returns-clause-apart c = parts_are_apart
