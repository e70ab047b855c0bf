use Rattle.std.proofs.Common.{◌≡◌, ◌∙◌, length, map, subst, arith}
use Rattle.graph_order.specs.Arrivals.{AddsTo}
use Rattle.graph_order.proofs.Growing.{refill}
use Rattle.graph_order.proofs.Marked.{not_both}
use Rattle.graph_order.proofs.Adding.{ArrivalsUpTo-start, ArrivalsUpTo-more, ArrivalsUpTo-skip, ArrivalsUpTo-end}
use Rattle.graph_order.proofs.arrivals.arrivals.Goals as goal
use Rattle.graph_order.proofs.arrivals.arrivals.Goals.{then-reached-k+in_ok-add_to, else-reached-k}

pub loop-k-init : goal.loop-k-init
loop-k-init c = ArrivalsUpTo-start (λ v. v.items) c.args.g.now c.in_ok-arrivals.arrivals.items (c.in_ok-arrivals.ensures.len ∙ c.count.ensures.value) c.in_ok-arrivals.ensures.empty

pub loop-k-preserved : goal.loop-k-preserved
loop-k-preserved c =
    elim c.if-reached-k.branch [
      | then-reached-k+in_ok-add_to w ↦
          (let size : length w.add_to.new.lists ≡ c.loop-k.arrivals.len = omega (arith, w.add_to.auto.lists, w.deref_mut.ensures.len) in
          rw (w.arrivals-is, refill c.loop-k.arrivals.len w.add_to.new.lists c.loop-k.arrivals.items size)
          (ArrivalsUpTo-more c.args.g.now c.loop-k.k (map (λ v. v.items) c.loop-k.arrivals.items) (map (λ v. v.items) w.add_to.new.lists) c.loop-k.invariant
          ((c.requires.exact c.loop-k.k).0 w.if-reached-k.true)
          (subst (λ ns. AddsTo c.loop-k.k ns (map (λ v. v.items) c.loop-k.arrivals.items) (map (λ v. v.items) w.add_to.new.lists)) w.succ.ensures.value
          (subst (λ ls. AddsTo c.loop-k.k w.succ.result.now (map (λ v. v.items) ls) (map (λ v. v.items) w.add_to.new.lists)) w.deref_mut.ensures.value w.in_ok-add_to.ensures))))
      | else-reached-k w ↦
          rw w.arrivals-is
          (ArrivalsUpTo-skip c.args.g.now c.loop-k.k (map (λ v. v.items) c.loop-k.arrivals.items) c.loop-k.invariant
          (λ r. not_both c.args.reached.now c.loop-k.k w.if-reached-k.false ((c.requires.exact c.loop-k.k).1 r)))
    ]

pub returns : goal.returns
returns c = ArrivalsUpTo-end c.args.g.now c.loop-k.k (map (λ v. v.items) c.loop-k.arrivals.items) (omega (arith, c.loop-k-test.false, c.count-k-end.ensures.value)) c.loop-k.invariant
