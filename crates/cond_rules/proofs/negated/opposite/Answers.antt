use Rattle.cond_rules.proofs.Negating.{opposite_eq, opposite_ne, opposite_lt, opposite_le}
use Rattle.cond_rules.proofs.negated.opposite.Goals as goal

pub returns-in-Eq : goal.returns-in-Eq
returns-in-Eq c = opposite_eq c.args.op c.args.a c.args.b c.cmp.result c.in-Eq.is c.cmp.ensures

pub returns-in-Ne : goal.returns-in-Ne
returns-in-Ne c = opposite_ne c.args.op c.args.a c.args.b c.cmp-in-Ne.result c.in-Ne.is c.cmp-in-Ne.ensures

pub returns-in-Lt : goal.returns-in-Lt
returns-in-Lt c = opposite_lt c.args.op c.args.a c.args.b c.cmp-in-Lt.result c.in-Lt.is c.cmp-in-Lt.ensures

pub returns-in-Le : goal.returns-in-Le
returns-in-Le c = opposite_le c.args.op c.args.a c.args.b c.cmp-in-Le.result c.in-Le.is c.cmp-in-Le.ensures
