use Rattle.std.proofs.Common.{ap, ◌∙◌, subst, arith}
use Rattle.std.specs.Prelude.{Contains}
use Rattle.flow_stretches.specs.Known.{joined_blocks}
use Rattle.flow_stretches.proofs.Taking.{taken_start, taken_more, taken_whole}
use Rattle.flow_stretches.proofs.joining.joined_blocks.Goals as goal

pub bounds-nodes-0 : goal.bounds-nodes-0
bounds-nodes-0 c = c.requires.some

pub take_block-joined-requires : goal.take_block-joined-requires
take_block-joined-requires c = c.requires.inside 0 0 c.requires.some

pub loop-i-init : goal.loop-i-init
loop-i-init c = (omega arith, taken_start c.args.blocks.now c.args.nodes.now c.take_block-joined.result c.take_block-joined.new.blocks c.requires.some c.take_block-joined.ensures.value c.take_block-joined.ensures.left)

pub take_block-block-requires : goal.take_block-block-requires
take_block-block-requires c = omega (arith, c.requires.inside c.loop-i.i 0 c.loop-i-test.true, c.loop-i.invariant.1.count)

pub loop-i-preserved : goal.loop-i-preserved
loop-i-preserved c = (
  omega (arith, c.loop-i.invariant.0),
  taken_more c.args.blocks.now c.args.nodes.now c.loop-i.i c.take_block-block.result c.loop-i.joined c.in_ok-joined.joined c.loop-i.blocks c.take_block-block.new.blocks c.requires.once c.loop-i.invariant.0 c.loop-i-test.true
      c.take_block-block.ensures.value (c.in_ok-joined.ensures {u = tt}) c.take_block-block.ensures.left c.loop-i.invariant.1,
)

pub returns-clause-block : goal.returns-clause-block
returns-clause-block c = c.loop-i.invariant.1.are ∙ ap (joined_blocks c.args.blocks.now) (taken_whole c.args.nodes.now c.loop-i.i c.loop-i-test.false)

pub returns-clause-left : goal.returns-clause-left
returns-clause-left c = λ n none. c.loop-i.invariant.1.same n (λ h. none (subst (λ l. Contains l n) (taken_whole c.args.nodes.now c.loop-i.i c.loop-i-test.false) h))
