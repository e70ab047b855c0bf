use Rattle.flow_stretches.proofs.Given.{joined_is_given}
use Rattle.flow_stretches.proofs.laws.joined_is_given.Goals as goal

pub returns : goal.returns
returns c = joined_is_given
