use Rattle.std.proofs.Common.{◌≡◌, Some, length, refl, arith}
use Rattle.std.proofs.lemmas.Option.{slice_get_read}
use Rattle.std.specs.Prelude.{slice_get}
use Rattle.flag_liveness.proofs.Growing.{item_rule}
use Rattle.flag_liveness.proofs.Reasons.{reasons_more}
use Rattle.flag_liveness.proofs.spread.grow_one.Goals as goal

pub grow-requires-clause-rule : goal.grow-requires-clause-rule
grow-requires-clause-rule c = item_rule c.args.blocks.now c.args.k c.index-blocks-k.result c.requires.rule (omega arith) c.index-blocks-k.is

pub returns-in_ok-extend_from_slice-clause-reasons : goal.returns-in_ok-extend_from_slice-clause-reasons
returns-in_ok-extend_from_slice-clause-reasons c =
    let at : slice_get c.args.blocks.now c.args.k ≡ Some c.index-blocks-k.result = slice_get_read c.args.blocks.now (length c.args.blocks.now) c.args.k c.index-blocks-k.result refl (omega arith) c.index-blocks-k.is in
    reasons_more c.args.blocks.now c.index-blocks-k.result c.args.k c.args.live.now c.grow.new.self c.requires.nodes at c.grow.ensures.temps c.in_ok-grow.ensures.grows c.requires.reasons
