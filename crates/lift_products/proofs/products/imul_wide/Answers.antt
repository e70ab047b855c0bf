-- The block is the instruction's.
use Rattle.std.proofs.Common.{[], ◌∷◌, sym, subst}
use Rattle.x86_inst.specs.declared.Inst.TheVariants as i
use Rattle.lift_parts.specs.Lifted.{AreBlocksOf}
use Rattle.lift_products.proofs.ProductBlocks.{imul_wide_blocks}
use Rattle.lift_products.proofs.products.imul_wide.Goals as goal

pub returns : goal.returns
returns c = λ next l h. subst (λ b. AreBlocksOf (i.ImulWide c.args.size c.args.s) c.args.at next (b ∷ [])) (sym c.in_ok-b.ensures) (imul_wide_blocks c.args.size c.args.s c.args.at next h)
