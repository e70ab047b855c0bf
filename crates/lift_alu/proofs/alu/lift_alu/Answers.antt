use Rattle.lift_alu.proofs.alu.lift_alu.Goals as goal
use Rattle.lift_alu.proofs.Operations.{lifts_of_words}

pub returns-clause-lifts : goal.returns-clause-lifts
returns-clause-lifts g c =
    lifts_of_words c.args.op g.row.BITS c.args.a c.args.b c.in_ok-x.x c.in_ok-y.y c.on_parts.result c.requires c.in_ok-x.ensures c.in_ok-y.ensures c.on_parts.ensures
