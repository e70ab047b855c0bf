use Rattle.dream_words.proofs.Allowed.{none_bad}
use Rattle.dream_words.proofs.laws.all_pages_allow_all.Goals as goal

pub returns : goal.returns
returns c = none_bad
