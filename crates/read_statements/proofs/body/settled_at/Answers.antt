use Rattle.std.proofs.Common.{reverse}
use Rattle.read_statements.proofs.Settling.{stays}
use Rattle.read_statements.proofs.body.settled_at.Goals as goal

pub returns-in_default : goal.returns-in_default
returns-in_default c = stays (reverse c.args.open) c.args.stmts c.args.point c.args.token c.in_default.not-Assigned c.in_default.not-WhileTest c.in_default.not-AfterArm
