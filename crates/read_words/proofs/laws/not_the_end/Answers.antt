use Rattle.read_words.proofs.Ends.{not_the_end_is}
use Rattle.read_words.proofs.laws.not_the_end.Goals as goal

pub returns : goal.returns
returns c = not_the_end_is
