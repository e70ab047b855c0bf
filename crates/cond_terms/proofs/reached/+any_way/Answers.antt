use Rattle.std.proofs.Common.{◌/◌, ap, subst, arith, rules, length, get_or}
use Rattle.std.specs.Prelude.{Contains}
use Rattle.std.proofs.lemmas.Result.{IfOk-weaker}
use Rattle.std.proofs.lemmas.List.Elements.{Contains-get_or}
use Rattle.cond_terms.specs.declared.guards.Edge.{Edge}
use Rattle.cond_terms.proofs.Along.{none, many, one_source, one_way, no_way, two_halves, in_front, in_rest, rest_is}
use Rattle.cond_terms.proofs.reached.+any_way.Goals as goal

pub bounds-edges-ways : goal.bounds-edges-ways
bounds-edges-ways t c = (c.requires (get_or c.args.ways.now 0 0) (Contains-get_or c.args.ways.now 0 0 (omega (arith, c.if-ways-eq1.true)))).0

pub bounds-places-edge-inside : goal.bounds-places-edge-inside
bounds-places-edge-inside t c =
    (one_source c.args.edges.now c.args.places.now c.args.guards.now c.args.ways.now c.requires c.if-ways-eq1.true c.index-edges-ways.result c.index-edges-ways.is
    _ (ap (λ (x : Edge). x.from) c.edge.view_is)).0

pub bounds-guards-places : goal.bounds-guards-places
bounds-guards-places t c =
    (one_source c.args.edges.now c.args.places.now c.args.guards.now c.args.ways.now c.requires c.if-ways-eq1.true c.index-edges-ways.result c.index-edges-ways.is
    _ (ap (λ (x : Edge). x.from) c.edge.view_is)).1

pub returns-then-ways-eq1 : goal.returns-then-ways-eq1
returns-then-ways-eq1 t c =
    IfOk-weaker c.way.result _ _
    (λ m w. one_way c.args.edges.now c.args.places.now c.args.guards.now c.args.ways.now c.requires c.if-ways-eq1.true c.index-edges-ways.result c.index-edges-ways.is
    _ (ap (λ (x : Edge). x.from) c.edge.view_is) c.index-guards-places.result c.index-guards-places.is m w)
    c.way.ensures

pub any_way-requires : goal.any_way-requires
any_way-requires t c = (search rules, λ way named. c.requires way (in_front _ c.args.ways.now way named))

pub any_way-requires-2 : goal.any_way-requires-2
any_way-requires-2 t c = (search rules, λ way named. c.requires way (in_rest (length c.args.ways.now / 2) c.args.ways.now way (subst (λ l. Contains l way) (rest_is c.args.ways.now (length c.args.ways.now / 2)) named)))

pub returns : goal.returns
returns t c =
    IfOk-weaker c.joined.result _ _
    (λ m j. two_halves c.args.edges.now c.args.places.now c.args.guards.now c.args.ways.now c.in_ok-first.first c.in_ok-second.second m (many (length c.args.ways.now) c.if-is_empty.ensures c.if-ways-eq1.false) c.in_ok-first.ensures c.in_ok-second.ensures j)
    c.joined.ensures

pub returns-then-is_empty : goal.returns-then-is_empty
returns-then-is_empty t c = no_way c.args.edges.now c.args.places.now c.args.guards.now c.args.ways.now (none (length c.args.ways.now) c.if-is_empty.ensures)
