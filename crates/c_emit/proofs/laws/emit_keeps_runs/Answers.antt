use Rattle.c_emit.proofs.Local.{emit_keeps}
use Rattle.c_emit.proofs.laws.emit_keeps_runs.Goals as goal

pub returns : goal.returns
returns c = emit_keeps
