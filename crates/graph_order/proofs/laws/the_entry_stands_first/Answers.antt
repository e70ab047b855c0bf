use Rattle.graph_order.proofs.Walks.{entry_first}
use Rattle.graph_order.proofs.laws.the_entry_stands_first.Goals as goal

pub returns : goal.returns
returns c = entry_first
