use Rattle.flag_liveness.proofs.Spreading.{grown_so_far, grown_twice}
use Rattle.flag_liveness.proofs.spread.grow_waiting.Goals as goal

pub loop-k-init : goal.loop-k-init
loop-k-init c = grown_so_far c.args.blocks.now c.args.live.now c.requires.size c.requires.reasons

pub loop-k-preserved : goal.loop-k-preserved
loop-k-preserved c =
    grown_twice c.args.blocks.now c.args.live.now c.loop-k.live c.grow_one.new.live c.loop-k.more c.in_ok-grew.grew c.loop-k.invariant
    (record { size = c.grow_one.ensures.size; temps = c.grow_one.ensures.temps; less = c.in_ok-grew.ensures.less; fewer = c.in_ok-grew.ensures.fewer; reasons = c.in_ok-grew.ensures.reasons })
