use Rattle.std.proofs.Common.{sym, ◌∙◌, ap}
use Rattle.c_words.specs.Built.{cmp, num}
use Rattle.cond_rules.proofs.Comparing.{less_made}
use Rattle.cond_rules.proofs.signs.less.Goals as goal

pub returns : goal.returns
returns c =
    less_made c.args.op (sym c.is_equality.ensures ∙ c.if-not-is_equality.false) c.in-Some.w c.args.a.now c.args.b.now c.in-Some.r.now c.in-Some-as_low.d.now c.in-Some-as_bin.x.now c.in-Some-as_bin.y.now
    c.in_ok-o.o c.in_ok-x.x c.in_ok-y.y c.in_ok-less.less c.cmp.result
    c.in-Some.ensures c.in-Some-as_low.ensures c.in-Some-as_bin.ensures (c.is_within.ensures c.if-not-is_within.false) (c.is_within-else-not-is_within.ensures c.if-not-is_within-2.false)
    c.in_ok-o.ensures (c.same_word-is_overflow.ensures.0 c.if-not-is_overflow.false) c.in_ok-x.ensures c.in_ok-y.ensures c.in_ok-less.ensures
    (c.cmp.ensures ∙ ap (cmp c.args.op c.in_ok-less.less) c.num.ensures)
