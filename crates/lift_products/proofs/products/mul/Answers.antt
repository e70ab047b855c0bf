-- The block is the instruction's.
use Rattle.std.proofs.Common.{[], ◌∷◌, sym, subst}
use Rattle.x86_inst.specs.declared.Inst.TheVariants as i
use Rattle.lift_parts.specs.Lifted.{AreBlocksOf}
use Rattle.lift_products.proofs.ProductBlocks.{mul_blocks}
use Rattle.lift_products.proofs.products.mul.Goals as goal

pub returns : goal.returns
returns c = λ next l h. subst (λ b. AreBlocksOf (i.Mul c.args.size c.args.s) c.args.at next (b ∷ [])) (sym c.in_ok-b.ensures) (mul_blocks c.args.size c.args.s c.args.at next h)
