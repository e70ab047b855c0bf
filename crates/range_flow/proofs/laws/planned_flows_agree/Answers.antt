use Rattle.range_flow.proofs.Planned as planned
use Rattle.range_flow.proofs.laws.planned_flows_agree.Goals as goal

pub returns : goal.returns
returns c = planned.planned_flows_agree
