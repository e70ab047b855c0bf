use Rattle.range_flow.proofs.Given as given
use Rattle.range_flow.proofs.laws.flow_is_given.Goals as goal

pub returns : goal.returns
returns c = given.flow_is_given
