use Rattle.flow_passes.proofs.Agreed.{changed_agree}
use Rattle.flow_passes.proofs.laws.changed_agree.Goals as goal

pub returns : goal.returns
returns c = changed_agree
