use Rattle.std.proofs.Common.{ℕ, ◌<◌, map, length, ◌∙◌, sym, subst, arith}
use Rattle.micro_ir.specs.declared.flow.Flow.{Flow}
use Rattle.flow_stretches.specs.Known.{IsKnown, NextIn, AreNext}
use Rattle.flow_stretches.proofs.Planned.{ArePlanned, known_of, known_by, planned_by, paths_by, begin_by, names_by, next_within, are_next, are_stretches}
use Rattle.flow_stretches.proofs.plan.plan_of.Goals as goal

pub graph_of-requires : goal.graph_of-requires
graph_of-requires c = c.requires.few_blocks

pub next_in-requires-clause-few : goal.next_in-requires-clause-few
next_in-requires-clause-few c = c.requires.few_blocks

pub next_in-requires-clause-known : goal.next_in-requires-clause-known
next_in-requires-clause-known c =
    let f : Flow = record { entry = c.args.entry; blocks = c.args.blocks.now } in
    known_by f c.deref-2.result.now c.in_ok-reached.reached.items c.deref-3.result.now c.in_ok-comers.comers.items c.deref-2.ensures.value c.deref-3.ensures.value
    (known_of f c.in_ok-graph.graph c.in_ok-reached.reached.items c.in_ok-comers.comers.items (c.in_ok-graph.ensures {u = tt}) c.in_ok-reached.ensures.len c.in_ok-reached.ensures.exact c.in_ok-comers.ensures.count c.in_ok-comers.ensures.comes)

pub firsts_in-firsts-requires : goal.firsts_in-firsts-requires
firsts_in-firsts-requires c =
    let f : Flow = record { entry = c.args.entry; blocks = c.args.blocks.now } in
    let known : IsKnown f c.in_ok-reached.reached.items c.in_ok-comers.comers.items =
    known_of f c.in_ok-graph.graph c.in_ok-reached.reached.items c.in_ok-comers.comers.items (c.in_ok-graph.ensures {u = tt}) c.in_ok-reached.ensures.len c.in_ok-reached.ensures.exact c.in_ok-comers.ensures.count c.in_ok-comers.ensures.comes in
    subst (λ ns. (k m : ℕ) → NextIn ns k m → m < length c.in_ok-reached.reached.items) (sym c.deref-4.ensures.value)
    (next_within f c.in_ok-reached.reached.items c.in_ok-comers.comers.items c.in_ok-next.next.items c.requires known c.in_ok-next.ensures.exact)

pub paths_in-requires-clause-next : goal.paths_in-requires-clause-next
paths_in-requires-clause-next c =
    let f : Flow = record { entry = c.args.entry; blocks = c.args.blocks.now } in
    let known : IsKnown f c.in_ok-reached.reached.items c.in_ok-comers.comers.items =
    known_of f c.in_ok-graph.graph c.in_ok-reached.reached.items c.in_ok-comers.comers.items (c.in_ok-graph.ensures {u = tt}) c.in_ok-reached.ensures.len c.in_ok-reached.ensures.exact c.in_ok-comers.ensures.count c.in_ok-comers.ensures.comes in
    let plan : ArePlanned f c.in_ok-next.next.items c.firsts_in-firsts.result.items =
    planned_by f c.in_ok-reached.reached.items c.firsts_in-firsts.result.items c.in_ok-comers.comers.items c.deref-4.result.now c.in_ok-next.next.items c.deref-4.ensures.value known c.in_ok-next.ensures.count c.in_ok-next.ensures.exact c.firsts_in-firsts.ensures.count c.firsts_in-firsts.ensures.reached c.firsts_in-firsts.ensures.first c.firsts_in-firsts.ensures.others in
    subst AreNext (sym c.deref-5.ensures.value) (are_next f c.requires c.in_ok-next.next.items c.firsts_in-firsts.result.items plan)

pub paths_in-requires-clause-count : goal.paths_in-requires-clause-count
paths_in-requires-clause-count c =
    let f : Flow = record { entry = c.args.entry; blocks = c.args.blocks.now } in
    let known : IsKnown f c.in_ok-reached.reached.items c.in_ok-comers.comers.items =
    known_of f c.in_ok-graph.graph c.in_ok-reached.reached.items c.in_ok-comers.comers.items (c.in_ok-graph.ensures {u = tt}) c.in_ok-reached.ensures.len c.in_ok-reached.ensures.exact c.in_ok-comers.ensures.count c.in_ok-comers.ensures.comes in
    omega (arith, known.marks, c.in_ok-next.ensures.count, c.firsts_in-firsts.ensures.count)

pub paths_in-requires-clause-begin : goal.paths_in-requires-clause-begin
paths_in-requires-clause-begin c =
    begin_by c.deref-5.result.now c.deref-4.result.now c.deref-6.result.now c.firsts_in-firsts.result.items (c.deref-5.ensures.value ∙ sym c.deref-4.ensures.value) c.deref-6.ensures.value c.firsts_in-firsts.ensures.first

pub names_in-requires : goal.names_in-requires
names_in-requires c =
    let f : Flow = record { entry = c.args.entry; blocks = c.args.blocks.now } in
    let known : IsKnown f c.in_ok-reached.reached.items c.in_ok-comers.comers.items =
    known_of f c.in_ok-graph.graph c.in_ok-reached.reached.items c.in_ok-comers.comers.items (c.in_ok-graph.ensures {u = tt}) c.in_ok-reached.ensures.len c.in_ok-reached.ensures.exact c.in_ok-comers.ensures.count c.in_ok-comers.ensures.comes in
    omega (arith, c.requires.few_blocks, known.marks, c.firsts_in-firsts.ensures.count)

pub returns-clause-stretches : goal.returns-clause-stretches
returns-clause-stretches c =
    let f : Flow = record { entry = c.args.entry; blocks = c.args.blocks.now } in
    let known : IsKnown f c.in_ok-reached.reached.items c.in_ok-comers.comers.items =
    known_of f c.in_ok-graph.graph c.in_ok-reached.reached.items c.in_ok-comers.comers.items (c.in_ok-graph.ensures {u = tt}) c.in_ok-reached.ensures.len c.in_ok-reached.ensures.exact c.in_ok-comers.ensures.count c.in_ok-comers.ensures.comes in
    let plan : ArePlanned f c.in_ok-next.next.items c.firsts_in-firsts.result.items =
    planned_by f c.in_ok-reached.reached.items c.firsts_in-firsts.result.items c.in_ok-comers.comers.items c.deref-4.result.now c.in_ok-next.next.items c.deref-4.ensures.value known c.in_ok-next.ensures.count c.in_ok-next.ensures.exact c.firsts_in-firsts.ensures.count c.firsts_in-firsts.ensures.reached c.firsts_in-firsts.ensures.first c.firsts_in-firsts.ensures.others in
    are_stretches f c.requires c.in_ok-next.next.items c.firsts_in-firsts.result.items plan (map (λ l. l.items) c.in_ok-stretches.stretches.items)
    (paths_by c.deref-5.result.now c.in_ok-next.next.items c.deref-6.result.now c.firsts_in-firsts.result.items (map (λ l. l.items) c.in_ok-stretches.stretches.items) c.deref-5.ensures.value c.deref-6.ensures.value (c.in_ok-stretches.ensures {u = tt}))
    c.in_ok-names.names.items (names_by c.deref-7.result.now c.firsts_in-firsts.result.items c.in_ok-names.names.items c.deref-7.ensures.value c.in_ok-names.ensures.value)

pub returns-clause-entry : goal.returns-clause-entry
returns-clause-entry c =
    let f : Flow = record { entry = c.args.entry; blocks = c.args.blocks.now } in
    let known : IsKnown f c.in_ok-reached.reached.items c.in_ok-comers.comers.items =
    known_of f c.in_ok-graph.graph c.in_ok-reached.reached.items c.in_ok-comers.comers.items (c.in_ok-graph.ensures {u = tt}) c.in_ok-reached.ensures.len c.in_ok-reached.ensures.exact c.in_ok-comers.ensures.count c.in_ok-comers.ensures.comes in
    omega (arith, c.requires.checked.entry_inside, known.marks, c.firsts_in-firsts.ensures.count, c.in_ok-names.ensures.count)
