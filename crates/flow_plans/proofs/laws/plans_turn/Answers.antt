use Rattle.flow_plans.proofs.Turning.{plans_turn}
use Rattle.flow_plans.proofs.laws.plans_turn.Goals as goal

pub returns : goal.returns
returns c = plans_turn
