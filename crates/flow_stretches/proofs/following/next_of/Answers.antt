use Rattle.std.proofs.Common.{◌≡◌, Some, None, false, true, ap, refl, ◌∙◌, sym, subst}
use Rattle.micro_ir.specs.declared.flow.Block.{Block}
use Rattle.micro_ir.specs.declared.flow.Flow.{Flow}
use Rattle.flow_stretches.specs.Ends.{only_target}
use Rattle.flow_stretches.specs.Joined.{block_at}
use Rattle.flow_stretches.proofs.Follows.{TellsNext, block_here, next_unreached, next_untold, next_found, next_shared, next_entry}
use Rattle.flow_stretches.proofs.following.next_of.Goals as goal
use Rattle.flow_stretches.proofs.following.next_of.Goals.{else-target-entry-via-then-target-entry+else-is_only, else-target-entry-via-else-target-entry}

pub returns-then-not-reached-k : goal.returns-then-not-reached-k
returns-then-not-reached-k c = next_unreached (record { entry = c.args.entry; blocks = c.args.blocks.now }) c.args.reached.now c.args.comers.now c.args.k c.requires.known c.if-not-reached-k.true

pub returns-in_err-target : goal.returns-in_err-target
returns-in_err-target c =
    let f : Flow = record { entry = c.args.entry; blocks = c.args.blocks.now } in
    let only : only_target (block_at c.args.blocks.now c.args.k).end ≡ None =
    ap (λ (b : Block). only_target b.end) (block_here c.args.blocks.now c.args.k c.index-blocks-k.result c.requires.inside) ∙ sym (c.in_err-target.ensures {u = tt}) in
    subst (TellsNext f c.args.k) (sym c.from_residual.ensures) (next_untold f c.args.k only)

pub returns-then-is_only : goal.returns-then-is_only
returns-then-is_only c =
    let f : Flow = record { entry = c.args.entry; blocks = c.args.blocks.now } in
    let only : only_target (block_at c.args.blocks.now c.args.k).end ≡ Some c.target.inside.0 =
    ap (λ (b : Block). only_target b.end) (block_here c.args.blocks.now c.args.k c.index-blocks-k.result c.requires.inside) ∙ sym (c.in_ok-target.ensures {u = tt}) ∙ ap (λ n. Some n) (sym c.target.view_is) in
    next_found f c.args.reached.now c.args.comers.now c.args.k c.target.inside.0 c.requires.known c.if-not-reached-k.false only (λ e. c.if-target-entry.true (e ∙ sym c.entry.view_is)) ((c.if-is_only.ensures {u = tt}).0 refl)

pub returns-else-target-entry : goal.returns-else-target-entry
returns-else-target-entry c =
    let f : Flow = record { entry = c.args.entry; blocks = c.args.blocks.now } in
    let only : only_target (block_at c.args.blocks.now c.args.k).end ≡ Some c.target.inside.0 =
    ap (λ (b : Block). only_target b.end) (block_here c.args.blocks.now c.args.k c.index-blocks-k.result c.requires.inside) ∙ sym (c.in_ok-target.ensures {u = tt}) ∙ ap (λ n. Some n) (sym c.target.view_is) in
    elim c.else-target-entry.branch [
      | else-target-entry-via-then-target-entry+else-is_only w ↦
          next_shared f c.args.reached.now c.args.comers.now c.args.k c.target.inside.0 c.requires.known only
          (λ e. let z : false ≡ true = (w.if-is_only.ensures {u = tt}).1 e in let y : ⊥ = cc in y)
      | else-target-entry-via-else-target-entry w ↦ next_entry f c.args.k c.target.inside.0 only (w.if-target-entry.false ∙ c.entry.view_is)
    ]
