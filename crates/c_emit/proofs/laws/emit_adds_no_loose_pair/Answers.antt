use Rattle.c_emit.proofs.LoosePairs.{emit_adds_none}
use Rattle.c_emit.proofs.laws.emit_adds_no_loose_pair.Goals as goal

pub returns : goal.returns
returns c = emit_adds_none
