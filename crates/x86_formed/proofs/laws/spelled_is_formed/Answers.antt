use Rattle.x86_formed.proofs.Spelled.{spelled_is_formed}
use Rattle.x86_formed.proofs.laws.spelled_is_formed.Goals as goal

pub returns : goal.returns
returns c = spelled_is_formed
