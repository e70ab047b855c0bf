use Rattle.std.proofs.Common.{◌∙◌, ap, true, false}
use Rattle.c_syntax.specs.declared.syntax.CCmp.TheVariants.{Ne}
use Rattle.c_words.specs.Built.{cmp}
use Rattle.cond_rules.proofs.Joining.{signed_common_made}
use Rattle.cond_rules.proofs.joined.signed_common.Goals as goal

pub returns : goal.returns
returns c =
    signed_common_made c.args.w c.in-Some.x.now c.in-Some.y.now c.in-Some-as_less.m.now c.in-Some-as_less.n.now c.in-Some-as_cmp.z.now c.in-Some-as_cmp.i.now c.in_ok-a.a c.in_ok-b.b c.in_ok-less.less c.args.t.now c.args.u.now c.cmp.result
    (c.in_ok-first.ensures c.if-not-first.false) (c.in_ok-second.ensures c.if-not-second.false) c.in-Some.ensures c.in-Some-as_cmp.ensures (c.is_number.ensures c.if-not-is_number.false) c.in-Some-as_less.ensures
    c.in_ok-a.ensures c.in_ok-b.ensures c.in_ok-less.ensures (c.cmp.ensures ∙ ap (cmp Ne c.in_ok-less.less) c.num.ensures)
