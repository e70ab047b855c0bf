use Rattle.std.proofs.Common.{arith, refl, ap, length}
use Rattle.std.proofs.lemmas.Option.{slice_get_read}
use Rattle.cond_terms.specs.declared.guards.Edge.{Edge}
use Rattle.cond_terms.proofs.Placing.{WaysUpTo-start, WaysUpTo-pushed, WaysUpTo-end}
use Rattle.cond_terms.proofs.places.ways_in.Goals as goal

pub loop-place-init : goal.loop-place-init
loop-place-init c = WaysUpTo-start (λ v. v.items) c.args.count c.args.edges.now c.in_ok-ways.ways.items c.in_ok-ways.ensures.len c.in_ok-ways.ensures.empty

pub loop-place-preserved : goal.loop-place-preserved
loop-place-preserved c =
    let e = c.index-edges-place.result in
    WaysUpTo-pushed (λ v. v.items) c.args.count c.loop-place.place _ c.args.edges.now c.loop-place.ways.items c.index_mut.result.now c.push.new.self e c.loop-place.invariant
    (slice_get_read c.args.edges.now (length c.args.edges.now) c.loop-place.place e refl c.loop-place-test.true c.index-edges-place.is)
    (let inside = c.requires.inside c.loop-place.place e c.loop-place-test.true in omega (arith, inside, ap (λ (x : Edge). x.to) c.index-edges-place.is))
    (ap (λ (x : Edge). x.to) c.edge.view_is) c.index_mut.ensures.value c.in_ok-push.ensures.items

pub returns : goal.returns
returns c = WaysUpTo-end c.args.count c.loop-place.place c.args.edges.now _ c.loop-place.invariant (omega (arith, c.loop-place-test.false, c.loop-place.auto.place-end))
