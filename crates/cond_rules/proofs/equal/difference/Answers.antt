use Rattle.std.proofs.Common.{sym, ◌∙◌}
use Rattle.cond_rules.proofs.Equating.{difference_made}
use Rattle.cond_rules.proofs.equal.difference.Goals as goal

pub returns : goal.returns
returns c =
    difference_made c.args.op (sym c.is_equality.ensures ∙ c.if-not-is_equality.false) c.args.w c.args.a.now c.args.b.now c.in-Some.d.now c.in-Some-as_bin.x.now c.in-Some-as_bin.y.now c.in_ok-x.x c.in_ok-y.y c.cmp.result
    c.in-Some.ensures c.in-Some-as_bin.ensures (c.is_number.ensures c.if-not-is_number.false) (c.is_within.ensures c.if-not-is_within.false) (c.is_within-else-not-is_within.ensures c.if-not-is_within-2.false)
    c.in_ok-x.ensures c.in_ok-y.ensures c.cmp.ensures
