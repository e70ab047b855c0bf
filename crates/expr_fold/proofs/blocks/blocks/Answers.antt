use Rattle.flag_liveness.specs.Lives.{live_of}
use Rattle.expr_fold.proofs.Made.{rule_at, blocks_more, blocks_all}
use Rattle.expr_fold.proofs.blocks.blocks.Goals as goal

pub add_block-requires : goal.add_block-requires
add_block-requires c = rule_at c.args.all.now c.loop-b.b-index c.b-item.result c.loop-b-test.true c.b-item.is c.requires.rule

pub loop-b-preserved : goal.loop-b-preserved
loop-b-preserved c =
    blocks_more (live_of c.args.live.now) c.args.all.now c.loop-b.b-index c.b-item.result c.loop-b.made c.add_block.new.made c.loop-b-test.true c.b-item.is c.requires.lives
    (c.in_ok-add_block.ensures {u = tt} c.if-not-branch.false) c.loop-b.invariant

pub returns : goal.returns
returns c = blocks_all (live_of c.args.live.now) c.args.all.now c.loop-b.b-index c.loop-b.made c.loop-b-test.false c.loop-b.auto.b-index-end c.loop-b.invariant
