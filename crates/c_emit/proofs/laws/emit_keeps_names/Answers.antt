use Rattle.c_emit.specs.Laws.{renumbering}
use Rattle.c_emit.proofs.Naming.{printed_moved}
use Rattle.c_emit.proofs.laws.emit_keeps_names.Goals as goal

pub returns : goal.returns
returns c = λ t address. printed_moved (renumbering t) t
