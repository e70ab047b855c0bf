use Rattle.std.proofs.Common.{◌<◌, length, map, arith, ap, subst, ◌∙◌, [], ◌⊎◌}
use Rattle.std.specs.Prelude.{slice_index_or, ◌↔◌, IsTrue}
use Rattle.graph_order.specs.Owners.{StandsIn}
use Rattle.graph_order.specs.Ends.{HasTwo}
use Rattle.graph_order.proofs.Growing.{is_not}
use Rattle.graph_order.proofs.Rows.{at_image}
use Rattle.graph_order.proofs.Borders.{AreHeads-in, AreHeads-out}
use Rattle.graph_order.proofs.ends.heads_of.Goals as goal
use Rattle.graph_order.proofs.ends.heads_of.Goals.{then-is_head+in_ok-push, else-is_head}

pub loop-member-preserved : goal.loop-member-preserved
loop-member-preserved c =
    let inside : c.member.inside.0 < length c.args.arrivals.now =
    omega (arith, c.requires.inside c.loop-member.member-index c.member-item.result c.loop-member-test.true, c.member-item.is, c.member.view_is, c.requires.size) in
    let all = map (λ v. v.items) c.args.arrivals.now in
    let is = c.deref.ensures.value ∙ at_image (λ v. v.items) c.args.arrivals.now c.member.inside.0 c.index-arrivals-member.result inside c.index-arrivals-member.is ∙ ap (λ j. slice_index_or all j []) c.member.view_is in
    let leads = subst (λ ns. IsTrue c.is_head.result ↔ ((StandsIn c.args.bare.now c.member-item.result c.args.part → ⊥) ⊎ (IsTrue c.args.has_bare_cycle × HasTwo ns))) is c.is_head.ensures in
    elim c.if-is_head.branch [
      | then-is_head+in_ok-push w ↦
          rw (w.heads-is, w.in_ok-push.ensures.items)
          (AreHeads-in c.args.members.now c.args.part c.args.bare.now all c.args.has_bare_cycle c.requires.ascend c.loop-member.member-index c.member-item.result c.loop-member-test.true c.member-item.is c.loop-member.heads.items c.loop-member.invariant (leads.0 w.if-is_head.true))
      | else-is_head w ↦
          rw w.heads-is
          (AreHeads-out c.args.members.now c.args.part c.args.bare.now all c.args.has_bare_cycle c.requires.ascend c.loop-member.member-index c.member-item.result c.loop-member-test.true c.member-item.is c.loop-member.heads.items c.loop-member.invariant (λ p. is_not c.is_head.result w.if-is_head.false (leads.1 p)))
    ]
