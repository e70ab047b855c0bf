use Rattle.read_words.proofs.Steps.{one_token_is}
use Rattle.read_words.proofs.laws.one_token.Goals as goal

pub returns : goal.returns
returns c = one_token_is
