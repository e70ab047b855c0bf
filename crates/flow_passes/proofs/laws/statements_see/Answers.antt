use Rattle.flow_passes.proofs.Statements.{statements_see}
use Rattle.flow_passes.proofs.laws.statements_see.Goals as goal

pub returns : goal.returns
returns c = statements_see
