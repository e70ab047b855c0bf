use Rattle.read_statements.proofs.Ends.{from_the_start_is}
use Rattle.read_statements.proofs.laws.from_the_start.Goals as goal

pub returns : goal.returns
returns c = from_the_start_is
