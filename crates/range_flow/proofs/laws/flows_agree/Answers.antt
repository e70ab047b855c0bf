use Rattle.range_flow.proofs.RangePlan as plan
use Rattle.range_flow.proofs.laws.flows_agree.Goals as goal

pub returns : goal.returns
returns c = plan.flows_agree
