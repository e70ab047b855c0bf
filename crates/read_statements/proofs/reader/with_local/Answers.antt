use Rattle.std.proofs.Common.{sym, ap, ◌∙◌, arith}
use Rattle.read_statements.specs.Turns.{may_declare}
use Rattle.read_statements.proofs.Declared.{next_temp, next_bool, next_selector}
use Rattle.read_statements.proofs.reader.with_local.Goals as goal

pub overflow_add-result : goal.overflow_add-result
overflow_add-result c =
    let m = next_temp c.args.locals c.in-T.field-0 (ap (may_declare c.args.locals) (sym c.in-T.is) ∙ c.requires) in omega arith

pub overflow_add-result-in-B : goal.overflow_add-result-in-B
overflow_add-result-in-B c =
    let m = next_bool c.args.locals c.in-B.field-0 (ap (may_declare c.args.locals) (sym c.in-B.is) ∙ c.requires) in omega arith

pub overflow_add-result-in-S : goal.overflow_add-result-in-S
overflow_add-result-in-S c =
    let m = next_selector c.args.locals c.in-S.field-0 (ap (may_declare c.args.locals) (sym c.in-S.is) ∙ c.requires) in omega arith
