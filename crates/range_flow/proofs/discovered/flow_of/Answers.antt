use Rattle.std.proofs.Common.{◌≡◌, ℕ, ◌^◌, ◌<◌, ◌≤◌, nat_eq, ◌++◌, length, map, ap, sym, subst, ◌∙◌, arith}
use Rattle.std.specs.Prelude.{All}
use Rattle.std.specs.List.{list_any}
use Rattle.std.proofs.lemmas.List.{length-map}
use Rattle.range_flow.specs.Pieces.{flow_blocks}
use Rattle.range_flow.specs.Flow.{IsFlowOf}
use Rattle.range_flow.specs.Nodes.{pieces_of, leave_piece, successors_in, leads_outside}
use Rattle.range_flow.specs.Lifting.{CanBeLifted}
use Rattle.range_flow.proofs.Begun.{all_can_be_lifted, few_places}
use Rattle.range_flow.proofs.Outsiders.{few_lifted, is_flow, both_ok}
use Rattle.range_flow.proofs.discovered.flow_of.Goals as goal

pub lifted_places-requires : goal.lifted_places-requires
lifted_places-requires c =
    let m = c.args.m.now in
    let r = c.args.r.now in
    let places = c.args.found.now.places.items in
    let can = all_can_be_lifted m r places c.args.found.now.graph c.requires.no_place c.requires.discovered in
    subst (λ ps. All (CanBeLifted m r) ps) (sym c.deref.ensures.value) can

pub joined-requires : goal.joined-requires
joined-requires c =
    let m = c.args.m.now in
    let r = c.args.r.now in
    let places = c.args.found.now.places.items in
    let all = c.in_ok-all.all.items in
    let made = c.in_ok-all.ensures {u = tt} in
    let out = c.in_ok-outside.ensures {u = tt} in
    let few = few_lifted m r all made.lifted in
    let count : length all ≡ length places = sym (length-map all (λ l. l.at)) ∙ ap length (made.places ∙ c.deref.ensures.value) in
    let at_most : length places ≤ 65536 = few_places m r places c.args.found.now.graph c.requires.no_place c.requires.discovered in
    let keys : length c.as_slice.result.now ≡ length c.in_ok-outside.outside.keys = ap length c.as_slice.ensures.keys in
    let next : successors_in c.deref-2.result.now ≡ successors_in all = ap successors_in c.deref-2.ensures.value in
    let total = (c.in_ok-push_leaves.ensures {u = tt}).total in
    omega (arith, few.0, few.1, count, at_most, keys, next, total, out.few)

pub returns : goal.returns
returns c =
    let m = c.args.m.now in
    let r = c.args.r.now in
    let places = c.args.found.now.places.items in
    let all = c.in_ok-all.all.items in
    let keys = c.in_ok-outside.outside.keys in
    let made = c.in_ok-all.ensures {u = tt} in
    let out = c.in_ok-outside.ensures {u = tt} in
    let members : (a : ℕ) → list_any (nat_eq a) keys ≡ leads_outside r all a = λ a. out.members a ∙ ap (λ ls. leads_outside r ls a) c.deref-2.ensures.value in
    let pieces : pieces_of c.push_leaves.new.all.items ≡ pieces_of all ++ map leave_piece keys =
    (c.in_ok-push_leaves.ensures {u = tt}).pieces ∙ ap (λ ks. pieces_of all ++ map leave_piece ks) c.as_slice.ensures.keys in
    let words : All (λ a. a < 2 ^ 32) keys = subst (All (λ a. a < 2 ^ 32)) c.as_slice.ensures.keys (c.in_ok-push_leaves.ensures {u = tt}).words in
    both_ok c.joined.result (λ f. f.blocks ≡ flow_blocks (pieces_of c.push_leaves.new.all.items)) (λ f. f.entry ≡ 0) (IsFlowOf m r places)
    (λ f blocks entry. is_flow m r places all keys (made.places ∙ c.deref.ensures.value) made.lifted members out.unique words f
    (blocks ∙ ap flow_blocks pieces) entry)
    c.joined.ensures.blocks c.joined.ensures.entry
