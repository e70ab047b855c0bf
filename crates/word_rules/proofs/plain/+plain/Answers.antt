use Rattle.std.proofs.lemmas.Result.{IfOk-weaker}
use Rattle.word_rules.proofs.PlainFor.{num_for, name_for, not_for, bin_for, fn1_for, fn2_for, fn3_for, pick_for, cmp_for, cond_not_for, and_for, or_for}
use Rattle.word_rules.proofs.plain.+plain.Goals as goal

pub word-returns-in-Num : goal.word-returns-in-Num
word-returns-in-Num t c = num_for _ _ _ c.in-Num.is c.num.ensures

pub word-returns-in-Name : goal.word-returns-in-Name
word-returns-in-Name t c = name_for _ _ _ c.in-Name.is c.name.ensures

pub word-returns-in_ok-a-in-Not : goal.word-returns-in_ok-a-in-Not
word-returns-in_ok-a-in-Not t c = IfOk-weaker c.complement.result _ _ (λ r s. not_for c.in-Not.a _ _ c.args.e.now r c.in-Not.is c.get.ensures c.in_ok-a-in-Not.ensures s) c.complement.ensures

pub word-returns-in_ok-b-in-Bin : goal.word-returns-in_ok-b-in-Bin
word-returns-in_ok-b-in-Bin t c =
    IfOk-weaker c.settled.result _ _ (λ r s. bin_for c.in-Bin.op c.in-Bin.a c.in-Bin.b _ _ _ _ c.args.e.now r c.in-Bin.is c.get-in-Bin.ensures c.get-in-Bin-2.ensures c.in_ok-a-in-Bin.ensures c.in_ok-b-in-Bin.ensures s) c.settled.ensures

pub word-returns-in_ok-a-in-Fn1 : goal.word-returns-in_ok-a-in-Fn1
word-returns-in_ok-a-in-Fn1 t c = IfOk-weaker c.of_one.result _ _ (λ r s. fn1_for c.in-Fn1.f c.in-Fn1.a _ _ c.args.e.now r c.in-Fn1.is c.get-in-Fn1.ensures c.in_ok-a-in-Fn1.ensures s) c.of_one.ensures

pub word-returns-in_ok-b-in-Fn2 : goal.word-returns-in_ok-b-in-Fn2
word-returns-in_ok-b-in-Fn2 t c =
    IfOk-weaker c.of_two.result _ _ (λ r s. fn2_for c.in-Fn2.f c.in-Fn2.a c.in-Fn2.b _ _ _ _ c.args.e.now r c.in-Fn2.is c.get-in-Fn2.ensures c.get-in-Fn2-2.ensures c.in_ok-a-in-Fn2.ensures c.in_ok-b-in-Fn2.ensures s) c.of_two.ensures

pub word-returns-in_ok-c-in-Fn3 : goal.word-returns-in_ok-c-in-Fn3
word-returns-in_ok-c-in-Fn3 t c =
    IfOk-weaker c.of_three.result _ _
    (λ r s. fn3_for c.in-Fn3.f c.in-Fn3.a c.in-Fn3.b c.in-Fn3.c _ _ _ _ _ _ c.args.e.now r c.in-Fn3.is c.get-in-Fn3.ensures c.get-in-Fn3-2.ensures c.get-in-Fn3-3.ensures c.in_ok-a-in-Fn3.ensures c.in_ok-b-in-Fn3.ensures c.in_ok-c-in-Fn3.ensures s)
    c.of_three.ensures

pub word-returns-in_ok-b-in-Pick : goal.word-returns-in_ok-b-in-Pick
word-returns-in_ok-b-in-Pick t c =
    IfOk-weaker c.picked.result _ _
    (λ r s. pick_for c.in-Pick.t _ _ c.in-Pick.a c.in-Pick.b _ _ _ _ c.args.e.now r c.in-Pick.is c.get-in-Pick.ensures c.get-in-Pick-2.ensures c.get-in-Pick-3.ensures c.in_ok-t-in-Pick.ensures c.in_ok-a-in-Pick.ensures c.in_ok-b-in-Pick.ensures s)
    c.picked.ensures

pub cond-returns-in_ok-b-in-Cmp : goal.cond-returns-in_ok-b-in-Cmp
cond-returns-in_ok-b-in-Cmp t c = cmp_for _ _ _ _ _ _ _ c.in-Cmp.is c.in_ok-a-in-Cmp.ensures c.in_ok-b-in-Cmp.ensures c.cmp.ensures

pub cond-returns-in_ok-t-in-Not : goal.cond-returns-in_ok-t-in-Not
cond-returns-in_ok-t-in-Not t c = IfOk-weaker c.negated.result _ _ (λ r s. cond_not_for c.in-Not.t _ _ c.args.t.now r c.in-Not.is c.get.ensures c.in_ok-t-in-Not.ensures s) c.negated.ensures

pub cond-returns-in_ok-u-in-And : goal.cond-returns-in_ok-u-in-And
cond-returns-in_ok-u-in-And t c =
    IfOk-weaker c.and.result _ _ (λ r s. and_for c.in-And.t c.in-And.u _ _ _ _ c.args.t.now r c.in-And.is c.get-in-And.ensures c.get-in-And-2.ensures c.in_ok-t-in-And.ensures c.in_ok-u-in-And.ensures s) c.and.ensures

pub cond-returns-in_ok-u-in-Or : goal.cond-returns-in_ok-u-in-Or
cond-returns-in_ok-u-in-Or t c =
    IfOk-weaker c.or.result _ _ (λ r s. or_for c.in-Or.t c.in-Or.u _ _ _ _ c.args.t.now r c.in-Or.is c.get-in-Or.ensures c.get-in-Or-2.ensures c.in_ok-t-in-Or.ensures c.in_ok-u-in-Or.ensures s) c.or.ensures
