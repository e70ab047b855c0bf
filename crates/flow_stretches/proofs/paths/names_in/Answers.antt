use Rattle.std.proofs.Common.{arith, true, false}
use Rattle.flow_stretches.proofs.Marking.{few_before, names_none, names_more}
use Rattle.flow_stretches.proofs.paths.names_in.Goals as goal
use Rattle.flow_stretches.proofs.paths.names_in.Goals.{then-first, else-first}

pub loop-first-init : goal.loop-first-init
loop-first-init c = names_none c.args.firsts.now c.new-names.result.items c.new-names.ensures.items

pub overflow_add-count : goal.overflow_add-count
overflow_add-count c = omega (arith, c.requires, c.loop-first.invariant.counted, few_before c.args.firsts.now c.loop-first.first-index, c.loop-first-test.true)

pub loop-first-preserved : goal.loop-first-preserved
loop-first-preserved c =
    elim c.if-first.branch [
      | then-first w ↦ names_more c.args.firsts.now c.loop-first.first-index true c.loop-first.names.items c.push.new.self.items c.loop-first.count c.if-first.count c.loop-first-test.true w.if-first.true c.in_ok-push.ensures.items w.count-is c.loop-first.invariant
      | else-first w ↦ names_more c.args.firsts.now c.loop-first.first-index false c.loop-first.names.items c.push.new.self.items c.loop-first.count c.if-first.count c.loop-first-test.true w.if-first.false c.in_ok-push.ensures.items w.count-is c.loop-first.invariant
    ]

pub returns-clause-count : goal.returns-clause-count
returns-clause-count c = omega (arith, c.loop-first.invariant.size, c.loop-first-test.false, c.loop-first.auto.first-index-end)

pub returns-clause-value : goal.returns-clause-value
returns-clause-value c = λ n h. c.loop-first.invariant.each n (omega (arith, h, c.loop-first-test.false))
