use Rattle.flag_liveness.proofs.Keeping.{cleaning_keeps}
use Rattle.flag_liveness.proofs.laws.cleaning_keeps.Goals as goal

pub returns : goal.returns
returns c = cleaning_keeps
