use Rattle.range_flow.proofs.FoundPlaces.{discovered_cover}
use Rattle.range_flow.proofs.Given.{flow_is_given}
use Rattle.dream_engine.proofs.Composed.{composed_result}
use Rattle.dream_engine.proofs.decompile.function_of.Goals as goal

pub shortened-requires : goal.shortened-requires
shortened-requires c =
    let m = c.args.m.now in
    let r = c.args.r.now in
    let places = c.args.found.now.places.items in
    let cover = discovered_cover m r places c.args.found.now.graph c.requires.discovered c.requires.no_place in
    record { given = flow_is_given m r places c.in_ok-flow.flow cover.0 c.in_ok-flow.ensures cover.1 }

pub tree_of-requires : goal.tree_of-requires
tree_of-requires c = record { given = c.in_ok-short.ensures.given }

pub returns : goal.returns
returns c =
    let m = c.args.m.now in
    let r = c.args.r.now in
    let places = c.args.found.now.places.items in
    let cover = discovered_cover m r places c.args.found.now.graph c.requires.discovered c.requires.no_place in
    composed_result c.args.form m r places c.in_ok-flow.flow c.in_ok-short.short c.in_ok-tree.tree c.emit.result c.requires.no_place cover.0 c.in_ok-flow.ensures c.in_ok-short.ensures c.in_ok-tree.ensures c.emit.ensures.exact c.emit.ensures.same
