use Rattle.cond_rules.proofs.Joining.{union_made}
use Rattle.cond_rules.proofs.joined.union.Goals as goal

pub returns : goal.returns
returns c =
    union_made c.args.p c.args.q c.args.r c.in-Some.x.now c.in-Some.y.now c.in-Some-as_cmp.m.now c.in-Some-as_cmp.n.now c.in_ok-a.a c.in_ok-b.b c.args.t.now c.args.u.now c.cmp.result c.requires
    c.in-Some.ensures c.in-Some-as_cmp.ensures (c.same_word.ensures.0 c.if-not-same_word.false) (c.same_word-else-not-same_word.ensures.0 c.if-not-same_word-2.false) c.in_ok-a.ensures c.in_ok-b.ensures c.cmp.ensures
