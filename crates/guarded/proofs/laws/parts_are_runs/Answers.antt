use Rattle.guarded.proofs.Runs.{tree_is}
use Rattle.guarded.proofs.laws.parts_are_runs.Goals as goal

pub returns : goal.returns
returns c = tree_is
