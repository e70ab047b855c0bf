use Rattle.read_statements.proofs.Refused.{no_branch}
use Rattle.read_statements.proofs.turns.after_else.Goals as goal

pub returns-in_default : goal.returns-in_default
returns-in_default c = no_branch c.args.arms c.args.token c.in_default.not-If c.in_default.not-Begin
