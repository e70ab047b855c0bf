use Rattle.guarded.proofs.Meaning.{trees_mean}
use Rattle.guarded.proofs.laws.trees_mean_so.Goals as goal

pub returns : goal.returns
returns c = trees_mean
