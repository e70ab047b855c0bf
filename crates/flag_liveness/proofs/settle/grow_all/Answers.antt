use Rattle.std.proofs.Common.{◌≡◌, ◌-◌, Some, length, refl, arith}
use Rattle.std.specs.Prelude.{slice_get}
use Rattle.std.proofs.lemmas.Option.{slice_get_read}
use Rattle.flag_liveness.proofs.Growing.{grown_none, grown_step, grown_all, item_rule}
use Rattle.flag_liveness.proofs.Reasons.{reasons_more}
use Rattle.flag_liveness.proofs.settle.grow_all.Goals as goal

pub loop-k-init : goal.loop-k-init
loop-k-init c = grown_none c.args.blocks.now c.args.live.now (length c.args.blocks.now) c.requires.size refl c.requires.reasons

pub grow-requires-clause-rule : goal.grow-requires-clause-rule
grow-requires-clause-rule c = item_rule c.args.blocks.now (c.loop-k.k - 1) c.index-blocks-k.result c.requires.rule (let i = c.loop-k.invariant.inside in omega arith) c.index-blocks-k.is

pub loop-k-preserved : goal.loop-k-preserved
loop-k-preserved c =
    let at : slice_get c.args.blocks.now (c.loop-k.k - 1) ≡ Some c.index-blocks-k.result = slice_get_read c.args.blocks.now (length c.args.blocks.now) (c.loop-k.k - 1) c.index-blocks-k.result refl (omega arith) c.index-blocks-k.is in
    grown_step c.args.blocks.now c.args.live.now c.loop-k.live c.grow.new.self c.loop-k.more c.in_ok-grew.grew _ c.loop-k.k (c.loop-k.k - 1) c.index-blocks-k.result c.loop-k.invariant (omega arith) at c.grow.ensures.temps c.grow.ensures.size
    c.in_ok-grew.ensures.same c.in_ok-grew.ensures.fewer c.in_ok-grew.ensures.closed
    (reasons_more c.args.blocks.now c.index-blocks-k.result (c.loop-k.k - 1) c.loop-k.live c.grow.new.self c.requires.nodes at c.grow.ensures.temps c.in_ok-grew.ensures.grows c.loop-k.invariant.reasons) refl

pub returns-clause-closed : goal.returns-clause-closed
returns-clause-closed c = λ q. grown_all c.args.blocks.now c.args.live.now c.loop-k.live c.loop-k.more c.loop-k.k c.loop-k.invariant (omega arith) q
