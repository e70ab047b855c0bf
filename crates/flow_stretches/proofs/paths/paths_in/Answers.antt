use Rattle.std.proofs.Common.{map, arith}
use Rattle.flow_stretches.proofs.Places.{paths_none, paths_more, paths_skip, paths_all}
use Rattle.flow_stretches.proofs.paths.paths_in.Goals as goal
use Rattle.flow_stretches.proofs.paths.paths_in.Goals.{then-firsts-n+in_ok-path_from+in_ok-push, else-firsts-n}

pub loop-n-init : goal.loop-n-init
loop-n-init c = rw c.new-paths.ensures.items (paths_none c.args.next.now)

pub path_from-requires-clause-inside : goal.path_from-requires-clause-inside
path_from-requires-clause-inside c = omega (arith, c.loop-n-test.true, c.requires.count)

pub path_from-requires-clause-begins : goal.path_from-requires-clause-begins
path_from-requires-clause-begins c = λ k e. c.requires.begin k c.loop-n.n c.if-firsts-n.true e

pub loop-n-preserved : goal.loop-n-preserved
loop-n-preserved c =
    elim c.if-firsts-n.branch [
      | then-firsts-n+in_ok-path_from+in_ok-push w ↦
          rw (w.paths-is, w.in_ok-push.ensures.items)
          (paths_more (λ v. v.items) c.args.next.now c.args.firsts.now c.loop-n.n c.loop-n.paths.items w.in_ok-path_from.field-0 c.loop-n-test.true w.if-firsts-n.true c.loop-n.invariant w.in_ok-path_from.ensures)
      | else-firsts-n w ↦ rw w.paths-is (paths_skip c.args.next.now c.args.firsts.now c.loop-n.n (map (λ v. v.items) c.loop-n.paths.items) c.loop-n-test.true w.if-firsts-n.false c.loop-n.invariant)
    ]

pub returns : goal.returns
returns c = paths_all c.args.next.now c.args.firsts.now c.loop-n.n (map (λ v. v.items) c.loop-n.paths.items) c.loop-n-test.false c.loop-n.invariant
