use Rattle.std.proofs.Common.{◌≡◌, None, reverse, IfOk, subst, sym, ap, ◌∙◌}
use Rattle.c_syntax.specs.declared.syntax.CStmt.TheVariants.{rolls-If}
use Rattle.read_statements.specs.Turns.{Body, done}
use Rattle.read_statements.specs.Readers.{body_of}
use Rattle.read_statements.proofs.Settling.{no_else_done}
use Rattle.read_statements.proofs.body.settled_if.Goals as goal

pub returns-in_default : goal.returns-in_default
returns-in_default c =
    let os = reverse c.args.open in
    let whole = ap (done os c.args.stmts) (sym (rolls-If c.args.arms None)) ∙ no_else_done os c.args.stmts c.args.arms c.args.token c.in_default.not-Else in
    subst (λ (t : Body). IfOk c.done.result (λ b. body_of b ≡ t)) whole c.done.ensures
