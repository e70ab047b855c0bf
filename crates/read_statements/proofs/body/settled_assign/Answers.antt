use Rattle.std.proofs.Common.{◌∙◌}
use Rattle.read_statements.proofs.Settling.{no_load_set}
use Rattle.read_statements.proofs.body.settled_assign.Goals as goal

pub returns-in_default : goal.returns-in_default
returns-in_default c = c.part.ensures ∙ no_load_set c.args.name c.args.token c.in_default.not-Ld
