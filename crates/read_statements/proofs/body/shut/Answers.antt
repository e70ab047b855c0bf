use Rattle.std.proofs.Common.{reverse, sym, ap, ◌∙◌}
use Rattle.c_syntax.specs.declared.syntax.CStmt.{CStmt}
use Rattle.c_syntax.specs.declared.syntax.CStmt.TheVariants.{rolls-Switch}
use Rattle.read_statements.specs.declared.open.Point.TheVariants as point
use Rattle.read_statements.specs.Turns.{At, placed, shut}
use Rattle.read_statements.proofs.body.shut.Goals as goal

pub returns-in-Default : goal.returns-in-Default
returns-in-Default c =
    let os = reverse c.args.open in
    ap (λ (s : CStmt). placed os c.args.stmts (At (point.SwitchBreak s))) (sym (rolls-Switch c.in-Default.word c.in-Default.groups c.args.body))
    ∙ sym (ap (λ n. shut os c.args.stmts n c.args.body) c.in-Default.is)
