use Rattle.read_statements.proofs.Ends.{at_the_end_is}
use Rattle.read_statements.proofs.laws.at_the_end.Goals as goal

pub returns : goal.returns
returns c = at_the_end_is
