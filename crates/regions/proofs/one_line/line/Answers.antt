use Rattle.std.proofs.Common.{length}
use Rattle.regions.specs.Straight.{line}
use Rattle.regions.proofs.Stepping.{first_round, on_round, over_round, splits_round, last_round}
use Rattle.regions.proofs.one_line.line.Goals as goal

pub loop-count-init : goal.loop-count-init
loop-count-init c = first_round c.args.blocks.now 0 (length c.args.blocks.now) c.args.entry c.new-trees.result c.new-trees.ensures

pub returns-in-Over : goal.returns-in-Over
returns-in-Over c =
    let bs = c.args.blocks.now in
    let made = c.in_ok-next.ensures {u = tt} in
    over_round bs c.loop-count._count (length bs) c.loop-count.node c.loop-count.trees c.add_block.new.trees c.in_ok-next.field-0 (line bs (length bs) c.args.entry)
    c.loop-count-test.true made.way c.in-Over.is made.tree c.loop-count.invariant

pub returns-in-Splits : goal.returns-in-Splits
returns-in-Splits c =
    let bs = c.args.blocks.now in
    let made = c.in_ok-next.ensures {u = tt} in
    splits_round bs c.loop-count._count (length bs) c.loop-count.node c.loop-count.trees c.in_ok-next.field-0 (line bs (length bs) c.args.entry)
    c.loop-count-test.true made.way c.in-Splits.is c.loop-count.invariant

pub loop-count-preserved : goal.loop-count-preserved
loop-count-preserved c =
    let bs = c.args.blocks.now in
    let made = c.in_ok-next.ensures {u = tt} in
    on_round bs c.loop-count._count (length bs) c.loop-count.node c.loop-count.trees c.add_block.new.trees c.in-On.next c.in_ok-next.field-0 (line bs (length bs) c.args.entry)
    c.loop-count-test.true made.way c.in-On.is made.tree c.loop-count.invariant

pub returns : goal.returns
returns c =
    let bs = c.args.blocks.now in
    last_round bs c.loop-count._count (length bs) c.loop-count.node c.loop-count.trees (line bs (length bs) c.args.entry) c.loop-count-test.false c.loop-count.invariant
