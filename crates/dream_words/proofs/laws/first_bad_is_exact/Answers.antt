use Rattle.dream_words.proofs.Allowed.{exact}
use Rattle.dream_words.proofs.laws.first_bad_is_exact.Goals as goal

pub returns : goal.returns
returns c = exact
