use Rattle.std.proofs.Common.{◌+◌, set, true, sym, subst, arith}
use Rattle.std.specs.Prelude.{Contains}
use Rattle.graph_order.specs.Graph.{IsMarked}
use Rattle.graph_order.proofs.Orders.{Passes, Passes-more, Passes-end}
use Rattle.graph_order.proofs.order.find_back.Goals as goal

pub loop-node-preserved : goal.loop-node-preserved
loop-node-preserved c =
    let inside = c.requires c.loop-node.node-index c.node-item.result c.loop-node-test.true in
    subst (λ j. Passes c.args.g.now c.args.order.now (c.loop-node.node-index + 1) (set c.loop-node.passed.items j true)) (sym c.node.view_is)
    (Passes-more c.args.g.now c.args.order.now c.loop-node.node-index c.node-item.result c.loop-node.passed.items c.loop-node-test.true c.node-item.is c.loop-node.invariant
    (omega (arith, inside, c.node-item.is))
    (λ b e. subst (λ bs. IsMarked bs b) c.deref.ensures.value (c.in_default.ensures.none b (subst (λ l. Contains l b) (sym c.succ.ensures.value) e))))

pub returns : goal.returns
returns c = Passes-end c.args.g.now c.args.order.now c.loop-node.node-index c.loop-node.passed.items (omega arith) c.loop-node.invariant
