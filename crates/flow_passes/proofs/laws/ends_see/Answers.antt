use Rattle.flow_passes.proofs.Ends.{ends_see}
use Rattle.flow_passes.proofs.laws.ends_see.Goals as goal

pub returns : goal.returns
returns c = ends_see
