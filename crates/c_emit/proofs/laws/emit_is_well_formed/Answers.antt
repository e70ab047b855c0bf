use Rattle.c_emit.proofs.Declaring.{emit_is_formed}
use Rattle.c_emit.proofs.laws.emit_is_well_formed.Goals as goal

pub returns : goal.returns
returns c = emit_is_formed
