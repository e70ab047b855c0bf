use Rattle.std.proofs.Common.{◌<◌, length, arith}
use Rattle.graph_order.proofs.Owning.{Owns-more}
use Rattle.graph_order.proofs.owners.own.Goals as goal

pub loop-member-preserved : goal.loop-member-preserved
loop-member-preserved c =
    let inside : c.member-item.result < length c.loop-member.owners =
    omega (arith, c.requires c.loop-member.member-index c.member-item.result c.loop-member-test.true, c.member-item.is, c.loop-member.auto.owners) in
    Owns-more c.args.members.now c.args.part c.loop-member.member-index c.member-item.result c.member.inside.0 c.args.owners.now c.loop-member.owners c.loop-member-test.true c.member-item.is c.member.view_is inside c.loop-member.invariant
