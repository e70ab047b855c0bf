-- The block is the instruction's.
use Rattle.std.proofs.Common.{[], ◌∷◌, sym, subst}
use Rattle.x86_inst.specs.declared.Inst.TheVariants as i
use Rattle.lift_parts.specs.Lifted.{AreBlocksOf}
use Rattle.lift_products.proofs.QuotientBlocks.{div_blocks}
use Rattle.lift_products.proofs.quotients.div.Goals as goal

pub returns : goal.returns
returns c = λ next l h. subst (λ b. AreBlocksOf (i.Div c.args.size c.args.s) c.args.at next (b ∷ [])) (sym c.in_ok-b.ensures) (div_blocks c.args.size c.args.s c.args.at next h)
