use Rattle.flag_liveness.specs.Lives.{live_of}
use Rattle.flag_liveness.proofs.Making.{next_is_flow, makes_more}
use Rattle.flag_liveness.proofs.cleaning.clean_blocks.Goals as goal

pub clean_block-requires : goal.clean_block-requires
clean_block-requires c = next_is_flow (live_of c.args.live.now) c.args.blocks c.loop-b.rest c.pop.new.self c.loop-b.made.items c.in-Some.b c.requires c.loop-b.invariant c.in-Some.ensures

pub loop-b-preserved : goal.loop-b-preserved
loop-b-preserved c =
    makes_more (live_of c.args.live.now) c.args.blocks c.loop-b.rest c.pop.new.self c.loop-b.made.items c.push.new.self.items c.in-Some.b c.in_ok-clean_block.field-0 c.loop-b.invariant c.in-Some.ensures c.in_ok-clean_block.ensures c.in_ok-push.ensures.items
