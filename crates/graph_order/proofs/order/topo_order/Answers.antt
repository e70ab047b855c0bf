use Rattle.std.proofs.Common.{reverse, sym, subst}
use Rattle.graph_order.specs.Finish.{NoneLeadsBack}
use Rattle.graph_order.specs.Order.{IsTopologicalOrder}
use Rattle.graph_order.proofs.Orders.{reversed_order}
use Rattle.graph_order.proofs.order.topo_order.Goals as goal

pub returns : goal.returns
returns c =
    subst (IsTopologicalOrder c.args.g.now) (sym c.reverse.ensures.items)
    (reversed_order c.args.g.now c.in_ok-order.order.items c.in_ok-order.ensures
    (subst (NoneLeadsBack c.args.g.now) c.deref.ensures.value c.in_ok-find_back.ensures))
