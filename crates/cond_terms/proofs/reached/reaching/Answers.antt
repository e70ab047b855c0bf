use Rattle.std.proofs.Common.{◌≡◌, ℕ, ◌+◌, ◌<◌, ◌∙◌, sym, ap, subst, refl, arith, nat_eq, All, List, [], ◌∷◌, ◌++◌, length, get_or, Some, length-append}
use Rattle.std.proofs.lemmas.Option.{slice_get_read}
use Rattle.std.proofs.lemmas.List.Elements.{Contains-get_or}
use Rattle.cond_terms.specs.declared.guards.Guard.{Guard}
use Rattle.cond_terms.specs.Guards.{AreEdgesOf, ArePlain}
use Rattle.cond_terms.specs.Reaching.{ArePlaces, HaveSources, IsGuardMade}
use Rattle.cond_terms.proofs.Ordered.{AreGuardsSoFar, no_guards, few_names, targets_below, IsTurn, turn_sources, turn_guard, all_guards, tell_taken, plain_are_shallow}
use Rattle.cond_terms.proofs.reached.reaching.Goals as goal

pub ways_in-requires-clause-inside : goal.ways_in-requires-clause-inside
ways_in-requires-clause-inside c = λ k d h.
    let edges = c.as_slice-edges.result.now in
    let es : AreEdgesOf c.args.g.now edges = subst (AreEdgesOf c.args.g.now) (sym c.as_slice-edges.ensures) c.requires.along in
    let below : All (λ n. n < c.above-count.result) c.args.order.now.items = subst (All (λ n. n < c.above-count.result)) c.deref.ensures.value c.above-count.ensures in
    targets_below c.args.g.now edges c.args.order.now.items c.requires.in_order es c.above-count.result below (get_or edges k d) (Contains-get_or edges k d h)

pub loop-node-init : goal.loop-node-init
loop-node-init c = record {
  size = ap length c.new-guards.ensures.items;
  right = subst (λ l. AreGuardsSoFar c.args.g.now.entry c.as_slice-edges.result.now c.args.order.now.items l c.args.first 0) (sym c.new-guards.ensures.items)
      (no_guards c.args.g.now.entry c.as_slice-edges.result.now c.args.order.now.items c.args.first);
}

pub overflow_cast-name : goal.overflow_cast-name
overflow_cast-name c = omega (arith, c.loop-node.invariant.right.count, few_names c.loop-node.guards.items, c.loop-node.invariant.size, c.loop-node-test.true, c.requires.room, ap length c.deref-node-items.ensures.value)

pub overflow_add-name : goal.overflow_add-name
overflow_add-name c = omega (arith, c.loop-node.invariant.right.count, few_names c.loop-node.guards.items, c.loop-node.invariant.size, c.loop-node-test.true, c.requires.room, ap length c.deref-node-items.ensures.value)

pub guard_of-requires : goal.guard_of-requires
guard_of-requires c =
    let edges = c.as_slice-edges.result.now in
    let order = c.args.order.now.items in
    let count = c.above-count.result in
    let places = c.in_ok-places.places.items in
    let guards = c.loop-node.guards.items in
    let k = c.loop-node.node-index in
    let within : k < length order = omega (arith, c.loop-node-test.true, ap length c.deref-node-items.ensures.value) in
    let item : c.node-item.result ≡ get_or order k c.node-item.result = c.node-item.is ∙ ap (λ l. get_or l k c.node-item.result) c.deref-node-items.ensures.value in
    let turn : IsTurn (λ v. v.items) c.args.g.now edges order count places c.in_ok-ways.ways.items guards k c.node.inside.0 c.deref-in-loop-node-3.result.now =
    record {
      in_order = c.requires.in_order;
      along = subst (AreEdgesOf c.args.g.now) (sym c.as_slice-edges.ensures) c.requires.along;
      below = subst (All (λ n. n < count)) c.deref.ensures.value c.above-count.ensures;
      places_are = subst (λ l. ArePlaces count l places) c.deref-2.ensures.value c.in_ok-places.ensures;
      ways_are = c.in_ok-ways.ensures;
      size = c.loop-node.invariant.size;
      at = slice_get_read order (length order) k c.node-item.result refl within item ∙ ap Some (sym c.node.view_is);
      list = c.index-ways.result.now;
      list_is = c.index-ways.ensures;
      same_ways = c.deref-in-loop-node-3.ensures.value;
    } in
    let sources = turn_sources (λ v. v.items) c.args.g.now edges order count places c.in_ok-ways.ways.items guards k c.node.inside.0 c.deref-in-loop-node-3.result.now turn in
    subst (λ l. HaveSources edges l c.deref-in-loop-node-2.result.now c.deref-in-loop-node-3.result.now) (sym c.deref-in-loop-node.ensures.value)
    (subst (λ l. HaveSources edges places l c.deref-in-loop-node-3.result.now) (sym c.deref-in-loop-node-2.ensures.value) sources)

pub loop-node-preserved : goal.loop-node-preserved
loop-node-preserved c =
    let edges = c.as_slice-edges.result.now in
    let order = c.args.order.now.items in
    let count = c.above-count.result in
    let places = c.in_ok-places.places.items in
    let guards = c.loop-node.guards.items in
    let k = c.loop-node.node-index in
    let within : k < length order = omega (arith, c.loop-node-test.true, ap length c.deref-node-items.ensures.value) in
    let item : c.node-item.result ≡ get_or order k c.node-item.result = c.node-item.is ∙ ap (λ l. get_or l k c.node-item.result) c.deref-node-items.ensures.value in
    let turn : IsTurn (λ v. v.items) c.args.g.now edges order count places c.in_ok-ways.ways.items guards k c.node.inside.0 c.deref-in-loop-node-3.result.now =
    record {
      in_order = c.requires.in_order;
      along = subst (AreEdgesOf c.args.g.now) (sym c.as_slice-edges.ensures) c.requires.along;
      below = subst (All (λ n. n < count)) c.deref.ensures.value c.above-count.ensures;
      places_are = subst (λ l. ArePlaces count l places) c.deref-2.ensures.value c.in_ok-places.ensures;
      ways_are = c.in_ok-ways.ensures;
      size = c.loop-node.invariant.size;
      at = slice_get_read order (length order) k c.node-item.result refl within item ∙ ap Some (sym c.node.view_is);
      list = c.index-ways.result.now;
      list_is = c.index-ways.ensures;
      same_ways = c.deref-in-loop-node-3.ensures.value;
    } in
    let ways = c.deref-in-loop-node-3.result.now in
    let name = c.args.first + c.loop-node.named in
    let made = c.in_ok-guard.guard in
    let entry = c.entry.inside.0 in
    let right : IsGuardMade (nat_eq c.node.inside.0 entry) edges places guards ways name made =
    subst (λ l. IsGuardMade (nat_eq c.node.inside.0 entry) edges l guards ways name made) c.deref-in-loop-node.ensures.value
    (subst (λ l. IsGuardMade (nat_eq c.node.inside.0 entry) edges c.deref-in-loop-node.result.now l ways name made) c.deref-in-loop-node-2.ensures.value c.in_ok-guard.ensures) in
    let more = turn_guard (λ v. v.items) c.args.g.now edges order count places c.in_ok-ways.ways.items guards k c.node.inside.0 ways turn made c.args.first c.loop-node.named name entry
    c.loop-node.invariant.right refl (c.entry.view_is ∙ c.entry-entry.ensures.value) right in
    record {
      size = ap length c.in_ok-push.ensures.items ∙ grown guards made k c.loop-node.invariant.size;
      right = subst (λ l. AreGuardsSoFar c.args.g.now.entry edges order l c.args.first (c.loop-node.named + c.names_of-named.result)) (sym c.in_ok-push.ensures.items)
          (subst (λ n. AreGuardsSoFar c.args.g.now.entry edges order (guards ++ made ∷ []) c.args.first (c.loop-node.named + n)) (sym c.names_of-named.ensures) more);
    }
  where
    grown : (gs : List Guard) (x : Guard) (k : ℕ) → length gs ≡ k → length (gs ++ x ∷ []) ≡ k + 1
    grown gs x k e = omega (arith, length-append gs (x ∷ []), e)

pub returns-clause-guards : goal.returns-clause-guards
returns-clause-guards c =
    let edges = c.args.edges.now.list in
    let order = c.args.order.now.items in
    let whole : length c.loop-node.guards.items ≡ length order = omega (arith, c.loop-node.invariant.size, c.loop-node-test.false, c.loop-node.auto.node-index-end, ap length c.deref-node-items.ensures.value) in
    all_guards c.args.g.now edges order c.requires.in_order c.requires.along c.loop-node.guards.items c.args.first c.loop-node.named whole
    (subst (λ l. AreGuardsSoFar c.args.g.now.entry l order c.loop-node.guards.items c.args.first c.loop-node.named) c.as_slice-edges.ensures c.loop-node.invariant.right)

pub returns-clause-taken : goal.returns-clause-taken
returns-clause-taken c =
    let edges = c.args.edges.now.list in
    tell_taken c.args.g.now edges c.args.order.now.items c.requires.in_order c.requires.along c.loop-node.guards.items (returns-clause-guards c)

pub returns-clause-shallow : goal.returns-clause-shallow
returns-clause-shallow c = λ plain.
    plain_are_shallow c.args.g.now.entry c.as_slice-edges.result.now c.args.order.now.items c.loop-node.guards.items c.args.first c.loop-node.named c.loop-node.invariant.right
    (omega (arith, c.if-edges.false)) (subst ArePlain (sym c.as_slice-edges.ensures) plain)
