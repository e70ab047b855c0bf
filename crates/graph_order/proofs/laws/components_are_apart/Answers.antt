use Rattle.graph_order.proofs.Walks.{components_apart}
use Rattle.graph_order.proofs.laws.components_are_apart.Goals as goal

pub returns : goal.returns
returns c = components_apart
