-- The block is the instruction's.
use Rattle.std.proofs.Common.{[], ◌∷◌, sym, subst}
use Rattle.x86_inst.specs.declared.Inst.TheVariants as i
use Rattle.lift_parts.specs.Lifted.{AreBlocksOf}
use Rattle.lift_products.proofs.ProductBlocks.{imul3_blocks}
use Rattle.lift_products.proofs.products.imul3.Goals as goal

pub returns : goal.returns
returns c = λ next l h.
    subst (λ b. AreBlocksOf (i.Imul3 c.args.size c.args.d c.args.s c.args.k) c.args.at next (b ∷ [])) (sym c.in_ok-b.ensures)
    (imul3_blocks c.args.size c.args.d c.args.s c.args.k c.args.at next h)
