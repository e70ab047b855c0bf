use Rattle.read_statements.proofs.Refused.{no_else}
use Rattle.read_statements.proofs.turns.at_else.Goals as goal

pub returns-in_default : goal.returns-in_default
returns-in_default c = no_else c.args.arms c.args.token c.in_default.not-Else
