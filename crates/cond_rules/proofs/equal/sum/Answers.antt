use Rattle.std.proofs.Common.{sym, ◌∙◌, refl}
use Rattle.cond_rules.proofs.Equating.{sum_made}
use Rattle.cond_rules.proofs.equal.sum.Goals as goal

pub returns : goal.returns
returns c =
    sum_made c.args.op (sym c.is_equality.ensures ∙ c.if-not-is_equality.false) c.args.w c.in-Some-Some.k c.in-Some-Some.j c.greatest-most.result _ c.args.a.now c.args.b.now c.in-Some.s.now c.in-Some-as_bin.x.now
    c.in-Some-as_bin.y.now c.in_ok-x.x c.num.result c.cmp.result c.in-Some.ensures c.in-Some-as_bin.ensures c.in-Some-Some.ensures c.in-Some-Some.ensures' (c.is_within.ensures c.if-not-is_within.false) c.greatest-most.ensures
    c.if-j-most.false c.if-k-most.false refl c.in_ok-x.ensures c.num.ensures c.cmp.ensures
