use Rattle.flow_plans.proofs.Following.{pass_follows}
use Rattle.flow_plans.proofs.laws.plans_follow.Goals as goal

pub returns : goal.returns
returns c = pass_follows
