use Rattle.std.proofs.Common.{◌≡◌, length, map, arith, subst, ap, ◌∙◌}
use Rattle.std.proofs.lemmas.List.{length-map}
use Rattle.graph_order.specs.Owners.{Owns}
use Rattle.graph_order.proofs.Growing.{refill}
use Rattle.graph_order.proofs.Rows.{at_image}
use Rattle.graph_order.proofs.Owning.{all_inside, OwnersUpTo-more, OwnersUpTo-end}
use Rattle.graph_order.proofs.owners.owners_of.Goals as goal

pub own-requires : goal.own-requires
own-requires c = λ j d l.
    (let s = all_inside (λ v. v.items) c.args.g.now c.args.parts.now c.requires c.loop-part.part c.index-parts-part.result c.deref.result.now c.loop-part-test.true c.index-parts-part.is c.deref.ensures.value j d l in
    omega (arith, s, ap length c.deref_mut.ensures.value, c.loop-part.invariant.size))

pub loop-part-preserved : goal.loop-part-preserved
loop-part-preserved c =
    let size : length c.own.new.owners ≡ c.loop-part.owners.len = omega (arith, c.own.auto.owners, c.deref_mut.ensures.len) in
    let parts = map (λ v. v.items) c.args.parts.now in
    let is = c.deref.ensures.value ∙ at_image (λ v. v.items) c.args.parts.now c.loop-part.part c.index-parts-part.result c.loop-part-test.true c.index-parts-part.is in
    rw (refill c.loop-part.owners.len c.own.new.owners c.loop-part.owners.items size)
    (OwnersUpTo-more c.args.g.now parts c.requires (length c.args.g.now.succ) c.loop-part.part (omega (arith, c.loop-part-test.true, length-map c.args.parts.now (λ v. v.items))) c.loop-part.owners.items c.own.new.owners c.loop-part.invariant
    (subst (λ ms. Owns ms c.loop-part.part c.loop-part.owners.items c.own.new.owners) is
    (subst (λ os. Owns c.deref.result.now c.loop-part.part os c.own.new.owners) c.deref_mut.ensures.value c.own.ensures)))

pub returns : goal.returns
returns c = OwnersUpTo-end (length c.args.g.now.succ) (map (λ v. v.items) c.args.parts.now) c.loop-part.part c.loop-part.owners.items (omega (arith, c.loop-part-test.false, c.loop-part.auto.part-end, length-map c.args.parts.now (λ v. v.items))) c.loop-part.invariant
