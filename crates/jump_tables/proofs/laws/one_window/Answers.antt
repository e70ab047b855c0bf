use Rattle.jump_tables.proofs.Standing.{one_window}
use Rattle.jump_tables.proofs.laws.one_window.Goals as goal

pub returns : goal.returns
returns c = one_window
