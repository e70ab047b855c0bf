use Rattle.graph_order.proofs.Walks.{cycle_without_order}
use Rattle.graph_order.proofs.laws.cycles_have_no_order.Goals as goal

pub returns : goal.returns
returns c = cycle_without_order
