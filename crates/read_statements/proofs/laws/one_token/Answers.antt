use Rattle.read_statements.proofs.States.{one_token_is}
use Rattle.read_statements.proofs.laws.one_token.Goals as goal

pub returns : goal.returns
returns c = one_token_is
