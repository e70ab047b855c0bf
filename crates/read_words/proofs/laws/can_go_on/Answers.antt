use Rattle.read_words.proofs.Ends.{can_go_on_is}
use Rattle.read_words.proofs.laws.can_go_on.Goals as goal

pub returns : goal.returns
returns c = can_go_on_is
