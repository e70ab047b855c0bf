use Rattle.std.proofs.Common.{sym, subst}
use Rattle.c_syntax.specs.declared.syntax.CCmp.TheVariants.{Eq, Ne, Lt, Le}
use Rattle.c_syntax.specs.declared.syntax.CCond.TheVariants as cond
use Rattle.c_words.specs.Built.{cmp as compared}
use Rattle.c_conds.specs.Placed.{IsOpposite}
use Rattle.c_conds.proofs.Opposites.{opposite_eq, opposite_ne, opposite_lt, opposite_le}
use Rattle.c_conds.proofs.opposite.comparison.Goals as goal

pub returns-in-Eq : goal.returns-in-Eq
returns-in-Eq c = subst (λ op. IsOpposite (compared op c.args.a c.args.b) (cond.Cmp Ne c.args.a c.args.b)) (sym c.in-Eq.is) (subst (IsOpposite (compared Eq c.args.a c.args.b)) (cond.rolls-Cmp Ne c.args.a c.args.b) (opposite_eq c.args.a c.args.b))

pub returns-in-Ne : goal.returns-in-Ne
returns-in-Ne c = subst (λ op. IsOpposite (compared op c.args.a c.args.b) (cond.Cmp Eq c.args.a c.args.b)) (sym c.in-Ne.is) (subst (IsOpposite (compared Ne c.args.a c.args.b)) (cond.rolls-Cmp Eq c.args.a c.args.b) (opposite_ne c.args.a c.args.b))

pub returns-in-Lt : goal.returns-in-Lt
returns-in-Lt c = subst (λ op. IsOpposite (compared op c.args.a c.args.b) (cond.Cmp Le c.args.b c.args.a)) (sym c.in-Lt.is) (subst (IsOpposite (compared Lt c.args.a c.args.b)) (cond.rolls-Cmp Le c.args.b c.args.a) (opposite_lt c.args.a c.args.b))

pub returns-in-Le : goal.returns-in-Le
returns-in-Le c = subst (λ op. IsOpposite (compared op c.args.a c.args.b) (cond.Cmp Lt c.args.b c.args.a)) (sym c.in-Le.is) (subst (IsOpposite (compared Le c.args.a c.args.b)) (cond.rolls-Cmp Lt c.args.b c.args.a) (opposite_le c.args.a c.args.b))
