use Rattle.graph_order.proofs.Heads.{cycle_holds_head}
use Rattle.graph_order.proofs.laws.each_cycle_holds_a_head.Goals as goal

pub returns : goal.returns
returns c = cycle_holds_head
