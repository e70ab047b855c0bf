use Rattle.std.proofs.Common.{◌<◌, ◌++◌, ◌∷◌, [], ◌∙◌, ap, sym, length, arith}
use Rattle.graph_order.proofs.Adding.{AddsTo-pushed}
use Rattle.graph_order.proofs.lists.add_to.Goals as goal

pub loop-target-preserved : goal.loop-target-preserved
loop-target-preserved c =
    let inside : c.target.inside.0 < length c.loop-target.lists =
    omega (arith, c.requires c.loop-target.target-index c.target-item.result c.loop-target-test.true, c.target-item.is, c.target.view_is, c.loop-target.auto.lists) in
    AddsTo-pushed (λ v. v.items) c.args.from c.args.targets.now c.loop-target.target-index c.target-item.result c.target.inside.0 _ c.loop-target.lists c.index-lists-target.result c.push.new.self c.loop-target.invariant c.loop-target-test.true c.target-item.is c.target.view_is inside c.index-lists-target.is (c.in_ok-push.ensures.items ∙ ap (λ v. v.items ++ c.args.from ∷ []) (sym c.index-lists-target.is))
