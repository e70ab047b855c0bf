use Rattle.std.proofs.Common.{◌≡◌, [], ◌++◌, length, ap, sym, ◌∙◌, arith}
use Rattle.std.proofs.lemmas.Grind.{common_steps}
use Rattle.std.specs.Vec.Iter.{into_iter_items}
use Rattle.range_flow.specs.Nodes.{first_by, joined_from, number_from, total_of}
use Rattle.range_flow.proofs.Joining.{one_more, all_joined, longer}
use Rattle.range_flow.proofs.assembly.joined.Goals as goal

pub loop-one-preserved : goal.loop-one-preserved
loop-one-preserved c =
    let pushed = c.in_ok-push_one.ensures {u = tt} in
    let steps = (c.in-Some.ensures {u = tt}).steps in
    let first = first_by c.in_ok-firsts.firsts in
    let done = c.loop-one.blocks.items in
    let len = longer first done c.push_one.new.flow.items c.in-Some.one pushed in
    let left = ap total_of steps.0 in (
      omega (arith, c.loop-one.invariant.0, len, left),
      one_more first done c.push_one.new.flow.items c.in-Some.one (into_iter_items c.next.new.self) (joined_from first 0 c.args.all.items) pushed
          (ap (λ r. done ++ joined_from first (length done) r) (sym steps.0) ∙ c.loop-one.invariant.1),
    )

pub returns-clause-blocks : goal.returns-clause-blocks
returns-clause-blocks c =
    let n = c.in_ok-firsts.ensures {u = tt} in
    let nil : into_iter_items c.loop-one.one-iterator ≡ [] = grind (arith, common_steps) in
    c.from_vec.ensures ∙ all_joined c.in_ok-firsts.firsts c.args.all.items c.loop-one.blocks.items (into_iter_items c.loop-one.one-iterator)
    (λ a. n.firsts a ∙ ap (λ ls. number_from 0 ls a) c.deref.ensures.value) (n.count ∙ ap total_of c.deref.ensures.value) nil c.loop-one.invariant.1
