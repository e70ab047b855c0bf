use Rattle.read_statements.proofs.Leading.{can_go_on_is}
use Rattle.read_statements.proofs.laws.can_go_on.Goals as goal

pub returns : goal.returns
returns c = can_go_on_is
