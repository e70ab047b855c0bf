use Rattle.flow_passes.proofs.Keeping.{keeping_counts}
use Rattle.flow_passes.proofs.laws.keeping_counts.Goals as goal

pub returns : goal.returns
returns c = keeping_counts
