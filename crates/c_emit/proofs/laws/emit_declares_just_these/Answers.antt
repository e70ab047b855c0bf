use Rattle.c_emit.proofs.Declaring.{emit_declares}
use Rattle.c_emit.proofs.laws.emit_declares_just_these.Goals as goal

pub returns : goal.returns
returns c = emit_declares
