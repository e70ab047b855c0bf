use Rattle.flow_stretches.proofs.Walking.{joined_runs}
use Rattle.flow_stretches.proofs.laws.joined_runs.Goals as goal

pub returns : goal.returns
returns c = joined_runs
