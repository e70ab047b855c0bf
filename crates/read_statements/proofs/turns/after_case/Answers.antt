use Rattle.read_statements.proofs.Refused.{full_case, no_case}
use Rattle.read_statements.proofs.turns.after_case.Goals as goal
use Rattle.read_statements.proofs.turns.after_case.Goals.{in_default-via-in-Case+else-has_room, in_default-via-in_default}

pub returns-in_default : goal.returns-in_default
returns-in_default c =
    elim c.in_default.branch [
      | in_default-via-in-Case+else-has_room w ↦ full_case c.args.switching c.args.values c.args.token w.in-Case.is w.if-has_room.ensures
      | in_default-via-in_default w ↦ no_case c.args.switching c.args.values c.args.token w.in_default.not-Case w.in_default.not-Begin
    ]
