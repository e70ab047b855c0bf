use Rattle.std.proofs.Common.{◌≡◌, ◌<◌, length, map, arith, sym, subst, ap, ◌∙◌, [], get_or, false}
use Rattle.std.specs.Prelude.{slice_index_or, ◌↔◌, Contains, IsTrue}
use Rattle.std.specs.List.Sorted.{IsStrictlyIncreasing}
use Rattle.std.proofs.lemmas.List.{length-map, get_or_read}
use Rattle.std.proofs.lemmas.List.Elements.{Contains-get_or}
use Rattle.graph_order.specs.Graph.{IsMarked}
use Rattle.graph_order.specs.Components.{IsPart}
use Rattle.graph_order.specs.Owners.{StandsIn, AreOwners}
use Rattle.graph_order.specs.Bare.{AreBare, HasCycleIn}
use Rattle.graph_order.specs.Ends.{AreHeads, AreExits}
use Rattle.graph_order.proofs.Rows.{at_image}
use Rattle.graph_order.proofs.Owning.{member_inside}
use Rattle.graph_order.proofs.Joined.{bare_below, entry_not_bare, is_part, below_map, PartsUpTo-more}
use Rattle.graph_order.proofs.finding.loops.Goals as goal

pub bare_cycles-requires-clause-below : goal.bare_cycles-requires-clause-below
bare_cycles-requires-clause-below c = λ n i s.
    (let b = bare_below c.args.g.now (map (λ v. v.items) c.in_ok-all.all.items) c.in_ok-all.ensures c.in_ok-owners.owners.items (subst (λ vs. AreOwners (length c.args.g.now.succ) (map (λ v. v.items) vs) c.in_ok-owners.owners.items) c.deref.ensures.value c.in_ok-owners.ensures) (map (λ v. v.items) c.in_ok-arrivals.arrivals.items) c.in_ok-arrivals.ensures c.in_ok-bare.bare.items (subst (λ os. AreBare c.args.g.now os c.in_ok-bare.bare.items) c.deref-3.ensures.value c.in_ok-bare.ensures) n i (subst (λ bs. StandsIn bs n i) c.deref-5.ensures.value s) in
    omega (arith, b, length-map c.in_ok-all.all.items (λ v. v.items), c.len.ensures, c.in_ok-all.all.ok.0))

pub bare_cycles-requires-clause-entry : goal.bare_cycles-requires-clause-entry
bare_cycles-requires-clause-entry c = λ i s.
    entry_not_bare c.args.g.now (map (λ v. v.items) c.in_ok-all.all.items) c.in_ok-all.ensures c.in_ok-owners.owners.items (subst (λ vs. AreOwners (length c.args.g.now.succ) (map (λ v. v.items) vs) c.in_ok-owners.owners.items) c.deref.ensures.value c.in_ok-owners.ensures) (map (λ v. v.items) c.in_ok-arrivals.arrivals.items) c.in_ok-arrivals.ensures c.in_ok-bare.bare.items (subst (λ os. AreBare c.args.g.now os c.in_ok-bare.bare.items) c.deref-3.ensures.value c.in_ok-bare.ensures) i (subst (λ bs. StandsIn bs c.args.g.now.entry i) c.deref-5.ensures.value s)

pub heads_of-requires-clause-ascend : goal.heads_of-requires-clause-ascend
heads_of-requires-clause-ascend c =
    let below : c.loop-part.part < length c.in_ok-all.all.items = omega (arith, c.loop-part-test.true, c.len-part-end.ensures, c.in_ok-all.all.ok.0) in
    let h = below_map (λ v. v.items) c.in_ok-all.all.items c.loop-part.part below in
    let members = slice_index_or (map (λ v. v.items) c.in_ok-all.all.items) c.loop-part.part [] in
    let copied : c.in_ok-members.members.items ≡ members = c.in_ok-members.ensures ∙ c.deref-in-loop-part.ensures.value ∙ at_image (λ v. v.items) c.in_ok-all.all.items c.loop-part.part c.index.result.now below c.index.ensures in
    subst IsStrictlyIncreasing (sym (c.deref-in-loop-part-2.ensures.value ∙ copied)) (c.in_ok-all.ensures.each c.loop-part.part h).ascends

pub heads_of-requires-clause-inside : goal.heads_of-requires-clause-inside
heads_of-requires-clause-inside c =
    let below : c.loop-part.part < length c.in_ok-all.all.items = omega (arith, c.loop-part-test.true, c.len-part-end.ensures, c.in_ok-all.all.ok.0) in
    let h = below_map (λ v. v.items) c.in_ok-all.all.items c.loop-part.part below in
    let members = slice_index_or (map (λ v. v.items) c.in_ok-all.all.items) c.loop-part.part [] in
    let copied : c.in_ok-members.members.items ≡ members = c.in_ok-members.ensures ∙ c.deref-in-loop-part.ensures.value ∙ at_image (λ v. v.items) c.in_ok-all.all.items c.loop-part.part c.index.result.now below c.index.ensures in
    λ j d l.
    (let s = member_inside c.args.g.now members (c.in_ok-all.ensures.each c.loop-part.part h) (get_or c.deref-in-loop-part-2.result.now j d) (subst (λ ys. Contains ys (get_or c.deref-in-loop-part-2.result.now j d)) (c.deref-in-loop-part-2.ensures.value ∙ copied) (Contains-get_or c.deref-in-loop-part-2.result.now j d l)) in
    omega (arith, s, ap length c.deref-in-loop-part-3.ensures.value, c.in_ok-bare.ensures.size))

pub exits_of-requires-clause-inside : goal.exits_of-requires-clause-inside
exits_of-requires-clause-inside c =
    let below : c.loop-part.part < length c.in_ok-all.all.items = omega (arith, c.loop-part-test.true, c.len-part-end.ensures, c.in_ok-all.all.ok.0) in
    let h = below_map (λ v. v.items) c.in_ok-all.all.items c.loop-part.part below in
    let members = slice_index_or (map (λ v. v.items) c.in_ok-all.all.items) c.loop-part.part [] in
    let copied : c.in_ok-members.members.items ≡ members = c.in_ok-members.ensures ∙ c.deref-in-loop-part.ensures.value ∙ at_image (λ v. v.items) c.in_ok-all.all.items c.loop-part.part c.index.result.now below c.index.ensures in
    λ j d l.
    member_inside c.args.g.now members (c.in_ok-all.ensures.each c.loop-part.part h) (get_or c.deref-in-loop-part-5.result.now j d) (subst (λ ys. Contains ys (get_or c.deref-in-loop-part-5.result.now j d)) (c.deref-in-loop-part-5.ensures.value ∙ copied) (Contains-get_or c.deref-in-loop-part-5.result.now j d l))

pub loop-part-preserved : goal.loop-part-preserved
loop-part-preserved c =
    let below : c.loop-part.part < length c.in_ok-all.all.items = omega (arith, c.loop-part-test.true, c.len-part-end.ensures, c.in_ok-all.all.ok.0) in
    let h = below_map (λ v. v.items) c.in_ok-all.all.items c.loop-part.part below in
    let members = slice_index_or (map (λ v. v.items) c.in_ok-all.all.items) c.loop-part.part [] in
    let copied : c.in_ok-members.members.items ≡ members = c.in_ok-members.ensures ∙ c.deref-in-loop-part.ensures.value ∙ at_image (λ v. v.items) c.in_ok-all.all.items c.loop-part.part c.index.result.now below c.index.ensures in
    let part = c.loop-part.part in
    let cycle = c.index-in-loop-part.result.now in
    let bare = c.in_ok-bare.bare.items in
    let heads = c.in_ok-heads.heads.items in
    let exits = c.in_ok-exits.exits.items in
    let read = get_or_read c.in_ok-cycles.cycles.items part cycle (omega (arith, c.loop-part-test.true, c.len-part-end.ensures, c.len.ensures, c.in_ok-cycles.ensures.len)) c.index-in-loop-part.ensures false in
    let marked = subst (λ bs. IsMarked c.in_ok-cycles.cycles.items part ↔ HasCycleIn c.args.g.now bs part) c.deref-5.ensures.value (c.in_ok-cycles.ensures.exact part) in
    let exact : IsTrue cycle ↔ HasCycleIn c.args.g.now bare part = ((λ t. marked.0 (sym read ∙ t)), (λ p. read ∙ marked.1 p)) in
    let lead : AreHeads members part bare (map (λ v. v.items) c.in_ok-arrivals.arrivals.items) cycle heads =
    subst (λ ms. AreHeads ms part bare (map (λ v. v.items) c.in_ok-arrivals.arrivals.items) cycle heads) (c.deref-in-loop-part-2.ensures.value ∙ copied)
    (subst (λ bs. AreHeads c.deref-in-loop-part-2.result.now part bs (map (λ v. v.items) c.in_ok-arrivals.arrivals.items) cycle heads) c.deref-in-loop-part-3.ensures.value
    (subst (λ vs. AreHeads c.deref-in-loop-part-2.result.now part c.deref-in-loop-part-3.result.now (map (λ v. v.items) vs) cycle heads) c.deref-in-loop-part-4.ensures.value c.in_ok-heads.ensures)) in
    let leave : AreExits c.args.g.now members part c.in_ok-owners.owners.items exits =
    subst (λ ms. AreExits c.args.g.now ms part c.in_ok-owners.owners.items exits) (c.deref-in-loop-part-5.ensures.value ∙ copied)
    (subst (λ os. AreExits c.args.g.now c.deref-in-loop-part-5.result.now part os exits) c.deref-in-loop-part-6.ensures.value c.in_ok-exits.ensures) in
    rw c.in_ok-push.ensures.items
    (PartsUpTo-more c.args.g.now (map (λ v. v.items) c.in_ok-all.all.items) part c.loop-part.parts.items (record { members = c.in_ok-members.members; heads = c.in_ok-heads.heads; exits = c.in_ok-exits.exits }) h c.loop-part.invariant copied
    (subst (λ ms. IsPart c.args.g.now ms heads exits) (sym copied)
    (is_part c.args.g.now (map (λ v. v.items) c.in_ok-all.all.items) c.in_ok-all.ensures c.in_ok-owners.owners.items (subst (λ vs. AreOwners (length c.args.g.now.succ) (map (λ v. v.items) vs) c.in_ok-owners.owners.items) c.deref.ensures.value c.in_ok-owners.ensures) (map (λ v. v.items) c.in_ok-arrivals.arrivals.items) c.in_ok-arrivals.ensures c.in_ok-bare.bare.items (subst (λ os. AreBare c.args.g.now os c.in_ok-bare.bare.items) c.deref-3.ensures.value c.in_ok-bare.ensures) part h cycle exact heads exits lead leave)))
