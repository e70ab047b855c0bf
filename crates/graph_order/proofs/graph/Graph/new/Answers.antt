use Rattle.std.proofs.Common.{◌≡◌, ◌∙◌, sym, ap, arith, nat_le, Some, None, map}
use Rattle.std.specs.Prelude.{find}
use Rattle.std.proofs.lemmas.List.{length-map}
use Rattle.graph_order.proofs.Names.{none_yet, bad_found, none_bad, all_inside}
use Rattle.graph_order.proofs.graph.Graph.new.Goals as goal

pub returns-in-Some-clause-bad : goal.returns-in-Some-clause-bad
returns-in-Some-clause-bad c =
    let here : find (λ n. nat_le c.len-count.result n) c.list-item.result.items ≡ Some c.in-Some.node = cc in
    let first = bad_found (λ v. v.items) c.args.entry c.len-count.result c.args.succ.items c.deref-list-items.result.now c.deref-list-items.ensures.value (omega (arith, c.len-count.ensures, c.args.succ.ok.0)) (omega (arith, c.if-entry-count.false, c.entry.view_is)) c.loop-list.list-index c.list-item.result c.in-Some.node (omega arith) c.list-item.is c.loop-list.invariant here in
    λ n. (λ e. cc, λ e. cc)

pub loop-list-preserved : goal.loop-list-preserved
loop-list-preserved c =
    let none : find (λ n. nat_le c.len-count.result n) c.list-item.result.items ≡ None = cc in
    none_yet (λ v. v.items) (λ n. nat_le c.len-count.result n) c.deref-list-items.result.now c.loop-list.list-index c.list-item.result (omega arith) c.loop-list.invariant
    (ap (λ v. find (λ n. nat_le c.len-count.result n) v.items) (sym c.list-item.is) ∙ none)

pub invariant_of-result : goal.invariant_of-result
invariant_of-result c =
    let first = none_bad (λ v. v.items) c.args.entry c.len-count.result c.args.succ.items c.deref-list-items.result.now c.deref-list-items.ensures.value (omega (arith, c.len-count.ensures, c.args.succ.ok.0)) (omega (arith, c.if-entry-count.false, c.entry.view_is)) c.loop-list.list-index (omega arith) c.loop-list.invariant in
    record {
      entry_inside = omega (arith, c.if-entry-count.false, c.entry.view_is, c.len-count.ensures, c.args.succ.ok.0, length-map c.args.succ.items (λ v. v.items));
      edges_inside = all_inside c.args.entry (map (λ v. v.items) c.args.succ.items) first;
      few_nodes = omega (arith, c.requires, length-map c.args.succ.items (λ v. v.items));
    }

pub returns-clause-bad : goal.returns-clause-bad
returns-clause-bad c =
    let first = none_bad (λ v. v.items) c.args.entry c.len-count.result c.args.succ.items c.deref-list-items.result.now c.deref-list-items.ensures.value (omega (arith, c.len-count.ensures, c.args.succ.ok.0)) (omega (arith, c.if-entry-count.false, c.entry.view_is)) c.loop-list.list-index (omega arith) c.loop-list.invariant in
    λ n. (λ e. cc, λ e. cc)
