use Rattle.std.proofs.Common.{arith}
use Rattle.flow_stretches.proofs.Follows.{firsts_none, firsts_more, firsts_skip, firsts_all}
use Rattle.flow_stretches.proofs.following.firsts_in.Goals as goal
use Rattle.flow_stretches.proofs.following.firsts_in.Goals.{in-Some, in_default}

pub loop-after-init : goal.loop-after-init
loop-after-init c = firsts_none c.args.next.now c.args.reached.items

pub loop-after-preserved : goal.loop-after-preserved
loop-after-preserved c =
    elim c.match-after.branch [
      | in-Some w ↦
          rw w.firsts-is
          (firsts_more c.args.next.now c.loop-after.after-index w.in-Some.m c.args.reached.items c.loop-after.firsts.items w.in-Some.is (omega (arith, c.requires c.loop-after.after-index w.in-Some.m w.in-Some.is, c.loop-after.invariant.count)) c.loop-after.invariant)
      | in_default w ↦ rw w.firsts-is (firsts_skip c.args.next.now c.loop-after.after-index c.args.reached.items c.loop-after.firsts.items w.in_default.is c.loop-after.invariant)
    ]

pub returns-clause-count : goal.returns-clause-count
returns-clause-count c = c.loop-after.invariant.count

pub returns-clause-reached : goal.returns-clause-reached
returns-clause-reached c = c.loop-after.invariant.stays

pub returns-clause-first : goal.returns-clause-first
returns-clause-first c = firsts_all c.args.next.now c.loop-after.after-index c.args.reached.items c.loop-after.firsts.items c.loop-after-test.false c.loop-after.invariant

pub returns-clause-others : goal.returns-clause-others
returns-clause-others c = c.loop-after.invariant.others
