use Rattle.range_flow.proofs.Counted.{flow_counts}
use Rattle.range_flow.proofs.laws.flow_counts.Goals as goal

pub returns : goal.returns
returns c = flow_counts
