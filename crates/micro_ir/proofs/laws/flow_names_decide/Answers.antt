use Rattle.micro_ir.proofs.FlowNames.{flow_names_decide}
use Rattle.micro_ir.proofs.laws.flow_names_decide.Goals as goal

pub returns : goal.returns
returns c = flow_names_decide
