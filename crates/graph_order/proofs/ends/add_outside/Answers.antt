use Rattle.std.proofs.Common.{arith, subst}
use Rattle.std.proofs.lemmas.List.{take_all}
use Rattle.graph_order.specs.Ends.{AddsOutside}
use Rattle.graph_order.proofs.Growing.{is_not}
use Rattle.graph_order.proofs.Borders.{AddsOutside-in, AddsOutside-out}
use Rattle.graph_order.proofs.ends.add_outside.Goals as goal
use Rattle.graph_order.proofs.ends.add_outside.Goals.{then-not-stands_in+in_ok-push, else-not-stands_in}

pub loop-node-preserved : goal.loop-node-preserved
loop-node-preserved c =
    elim c.if-not-stands_in.branch [
      | then-not-stands_in+in_ok-push w ↦
          rw (w.outside-is, w.in_ok-push.ensures.items)
          (AddsOutside-in c.args.nodes.now c.args.part c.args.owners.now c.loop-node.node-index c.node-item.result c.loop-node-test.true c.node-item.is c.args.outside.now.items c.loop-node.outside.items c.loop-node.invariant (λ s. is_not c.stands_in.result w.if-not-stands_in.true (c.stands_in.ensures.1 s)))
      | else-not-stands_in w ↦
          rw w.outside-is
          (AddsOutside-out c.args.nodes.now c.args.part c.args.owners.now c.loop-node.node-index c.node-item.result c.loop-node-test.true c.node-item.is c.args.outside.now.items c.loop-node.outside.items c.loop-node.invariant (c.stands_in.ensures.0 w.if-not-stands_in.false))
    ]

pub returns : goal.returns
returns c = subst (λ l. AddsOutside l c.args.part c.args.owners.now c.args.outside.now.items c.loop-node.outside.items) (take_all c.loop-node.node-index c.args.nodes.now (omega (arith, c.loop-node-test.false))) c.loop-node.invariant
