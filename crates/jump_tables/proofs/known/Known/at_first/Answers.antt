use Rattle.std.proofs.Common.{sym, ap, ◌∙◌}
use Rattle.jump_tables.specs.Forms.{Index}
use Rattle.jump_tables.proofs.Registers.{first_is}
use Rattle.jump_tables.proofs.known.Known.at_first.Goals as goal

pub returns-in-W-Reg : goal.returns-in-W-Reg
returns-in-W-Reg c =
    first_is c.args.index.now c.in-W-Reg.r c.with_form.result (ap (λ (x : Index). x.size) (sym c.index.view_is) ∙ c.in-W-Reg.is-0)
    (ap (λ (x : Index). x.operand) (sym c.index.view_is) ∙ c.in-W-Reg.is-1) c.with_form.ensures
