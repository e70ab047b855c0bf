use Rattle.dream_words.proofs.Composed.{composed}
use Rattle.dream_words.proofs.laws.agreements_compose.Goals as goal

pub returns : goal.returns
returns c = λ first second third a b kept. composed first second third a b kept
