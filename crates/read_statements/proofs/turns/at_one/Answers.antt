use Rattle.read_statements.proofs.Refused.{no_one}
use Rattle.read_statements.proofs.turns.at_one.Goals as goal

pub returns-in_default : goal.returns-in_default
returns-in_default c = no_one c.args.token c.in_default.not-One
