use Rattle.std.proofs.Common.{arith}
use Rattle.flag_liveness.proofs.Crossing.{crossed_more}
use Rattle.flag_liveness.proofs.across.across.Goals as goal

pub loop-b-preserved : goal.loop-b-preserved
loop-b-preserved c = crossed_more c.args.blocks.now c.loop-b.b-index c.b-item.result _ _ (omega arith) c.b-item.is c.loop-b.invariant c.in_ok-add_block.ensures.keeps c.in_ok-add_block.ensures.adds
