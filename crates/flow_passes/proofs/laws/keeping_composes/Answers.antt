use Rattle.flow_passes.proofs.Keeping.{keeping_composes}
use Rattle.flow_passes.proofs.laws.keeping_composes.Goals as goal

pub returns : goal.returns
returns c = keeping_composes
