use Rattle.read_statements.proofs.Refused.{no_trap}
use Rattle.read_statements.proofs.turns.trap_number.Goals as goal

pub returns-in_default : goal.returns-in_default
returns-in_default c = no_trap c.args.token c.in_default.not-Num
