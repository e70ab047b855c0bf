use Rattle.std.proofs.Common.{sym, subst, arith, ◌+◌}
use Rattle.micro_ir.specs.declared.flow.Flow.{Flow}
use Rattle.flow_stretches.proofs.Follows.{NextUpTo, next_none, next_more, next_all}
use Rattle.flow_stretches.proofs.following.next_in.Goals as goal

pub loop-k-init : goal.loop-k-init
loop-k-init c =
    let f : Flow = record { entry = c.args.entry; blocks = c.args.blocks.now } in
    subst (NextUpTo f 0) (sym c.new-next.ensures.items) (next_none f)

pub loop-k-preserved : goal.loop-k-preserved
loop-k-preserved c =
    let f : Flow = record { entry = c.args.entry; blocks = c.args.blocks.now } in
    subst (NextUpTo f (c.loop-k.k + 1)) (sym c.in_ok-push.ensures.items) (next_more f c.loop-k.k c.loop-k.next.items c.next_of.result c.loop-k.invariant c.next_of.ensures)

pub returns-clause-count : goal.returns-clause-count
returns-clause-count c = omega (arith, c.loop-k.invariant.count, c.loop-k-test.false, c.loop-k.auto.k-end)

pub returns-clause-exact : goal.returns-clause-exact
returns-clause-exact c =
    let f : Flow = record { entry = c.args.entry; blocks = c.args.blocks.now } in
    next_all f c.loop-k.k c.loop-k.next.items c.loop-k-test.false c.loop-k.invariant
