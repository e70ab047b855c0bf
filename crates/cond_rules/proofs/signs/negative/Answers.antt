use Rattle.std.proofs.Common.{sym, ◌∙◌, ap}
use Rattle.c_words.specs.Built.{cmp, num}
use Rattle.cond_rules.specs.Widths.{less_of, signed_of}
use Rattle.cond_rules.proofs.Comparing.{negative_made}
use Rattle.cond_rules.proofs.signs.negative.Goals as goal

pub returns : goal.returns
returns c =
    negative_made c.args.op (sym c.is_equality.ensures ∙ c.if-not-is_equality.false) c.in-Some.w c.args.a.now c.args.b.now c.in-Some.x.now c.in-Some-as_low.d.now c.in_ok-x.x c.in_ok-less.less c.cmp.result
    c.in-Some.ensures c.in-Some-as_low.ensures (c.is_number.ensures c.if-not-is_number.false) (c.in_ok-x.ensures ∙ ap (signed_of c.in-Some.w) c.in_ok-d.ensures) (c.in_ok-less.ensures ∙ ap (less_of c.in_ok-x.x) c.num.ensures)
    (c.cmp.ensures ∙ ap (cmp c.args.op c.in_ok-less.less) c.num-2.ensures)
