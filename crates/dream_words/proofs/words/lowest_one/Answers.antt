use Rattle.std.proofs.Common.{◌∙◌}
use Rattle.dream_words.proofs.Ones.{lowest_one-zeros}
use Rattle.dream_words.proofs.words.lowest_one.Goals as goal

pub returns : goal.returns
returns c = c.min.ensures ∙ lowest_one-zeros 31 c.args.v
