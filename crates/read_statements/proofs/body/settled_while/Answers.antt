use Rattle.std.proofs.Common.{◌∙◌}
use Rattle.read_statements.proofs.Settling.{no_one_test}
use Rattle.read_statements.proofs.body.settled_while.Goals as goal

pub returns-in_default : goal.returns-in_default
returns-in_default c = c.part.ensures ∙ no_one_test c.args.token c.in_default.not-One
