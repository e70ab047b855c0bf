use Rattle.std.proofs.Common.{arith, rules, subst}
use Rattle.std.proofs.lemmas.List.{take_all}
use Rattle.std.proofs.lemmas.List.Filters.{dedup_is}
use Rattle.std.proofs.lemmas.List.Sorted.{IsNonDecreasingBy-from_sort_by_key}
use Rattle.graph_order.specs.Ends.{AddsOutside}
use Rattle.graph_order.proofs.Borders.{LeavesTo, LeavesTo-more, AreExits-from_sorted}
use Rattle.graph_order.proofs.ends.exits_of.Goals as goal

pub loop-member-preserved : goal.loop-member-preserved
loop-member-preserved c =
    LeavesTo-more c.args.g.now c.args.members.now c.args.part c.args.owners.now c.loop-member.member-index c.member-item.result c.loop-member-test.true c.member-item.is c.loop-member.exits.items c.add_outside.new.outside.items c.loop-member.invariant
    (subst (λ ns. AddsOutside ns c.args.part c.args.owners.now c.loop-member.exits.items c.add_outside.new.outside.items) c.succ.ensures.value c.in_ok-add_outside.ensures)

pub returns : goal.returns
returns c =
    AreExits-from_sorted c.args.g.now c.args.members.now c.args.part c.args.owners.now c.loop-member.exits.items c.sort_by_key.new.self.items c.dedup.new.self.items
    (subst (λ l. LeavesTo c.args.g.now l c.args.part c.args.owners.now c.loop-member.exits.items) (take_all c.loop-member.member-index c.args.members.now (omega (arith, c.loop-member-test.false))) c.loop-member.invariant)
    c.in_ok-sort_by_key.ensures.permutation
    (IsNonDecreasingBy-from_sort_by_key (λ x. x) _ c.in_ok-sort_by_key.ensures.sorted (λ a r q k. search rules))
    (dedup_is _ _ _ c.dedup.ensures.filtered)
