use Rattle.read_statements.proofs.Refused.{no_load}
use Rattle.read_statements.proofs.turns.at_load.Goals as goal

pub returns-in_default : goal.returns-in_default
returns-in_default c = no_load c.args.name c.args.token c.in_default.not-Ld
