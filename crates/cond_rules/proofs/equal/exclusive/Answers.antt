use Rattle.std.proofs.Common.{sym, ◌∙◌}
use Rattle.cond_rules.proofs.Equating.{exclusive_made}
use Rattle.cond_rules.proofs.equal.exclusive.Goals as goal

pub returns : goal.returns
returns c =
    exclusive_made c.args.op (sym c.is_equality.ensures ∙ c.if-not-is_equality.false) c.args.a.now c.args.b.now c.in-Some.x.now c.in-Some.y.now c.in_ok-x.x c.in_ok-y.y c.cmp.result
    c.in-Some.ensures (c.is_number.ensures c.if-not-is_number.false) c.in_ok-x.ensures c.in_ok-y.ensures c.cmp.ensures
