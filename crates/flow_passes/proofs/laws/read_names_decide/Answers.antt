use Rattle.flow_passes.proofs.Reading.{read_names_decide}
use Rattle.flow_passes.proofs.laws.read_names_decide.Goals as goal

pub returns : goal.returns
returns c = read_names_decide
