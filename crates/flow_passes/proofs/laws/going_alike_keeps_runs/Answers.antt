use Rattle.flow_passes.proofs.Walking.{going_alike_keeps_runs}
use Rattle.flow_passes.proofs.laws.going_alike_keeps_runs.Goals as goal

pub returns : goal.returns
returns c = going_alike_keeps_runs
