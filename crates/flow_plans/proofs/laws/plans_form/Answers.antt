use Rattle.flow_plans.proofs.Forming.{plans_form}
use Rattle.flow_plans.proofs.laws.plans_form.Goals as goal

pub returns : goal.returns
returns c = plans_form
