use Rattle.read_statements.proofs.Declared.{no_such_local, no_name}
use Rattle.read_statements.proofs.reader.at_local.Goals as goal
use Rattle.read_statements.proofs.reader.at_local.Goals.{in_default-via-in-Name+else-may_declare, in_default-via-in_default}

pub returns-in_default : goal.returns-in_default
returns-in_default c =
    elim c.in_default.branch [
      | in_default-via-in-Name+else-may_declare w ↦ no_such_local c.args.address c.args.locals c.args.token w.in-Name.name w.in-Name.is w.if-may_declare.ensures
      | in_default-via-in_default w ↦ no_name c.args.address c.args.locals c.args.token w.in_default.not-Name
    ]
