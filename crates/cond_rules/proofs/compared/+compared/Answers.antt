use Rattle.std.proofs.Common.{sym, refl, subst}
use Rattle.std.proofs.lemmas.Result.{IfOk-weaker}
use Rattle.word_rules.specs.Standing.{ForCond}
use Rattle.cond_rules.proofs.Replaced.{not_made, bin_made, fn1_made, fn2_made, fn3_made, pick_made, cmp_made, cond_not_made, and_made, or_made}
use Rattle.cond_rules.proofs.compared.+compared.Goals as goal

pub compared_cond-returns-in_ok-b-in-Cmp : goal.compared_cond-returns-in_ok-b-in-Cmp
compared_cond-returns-in_ok-b-in-Cmp t c =
    IfOk-weaker c.cmp.result _ _ (λ w k. cmp_made _ _ _ _ _ _ w c.in-Cmp.is c.in_ok-a-in-Cmp.ensures c.in_ok-b-in-Cmp.ensures k) c.cmp.ensures

pub compared_cond-returns-in_ok-t-in-Not : goal.compared_cond-returns-in_ok-t-in-Not
compared_cond-returns-in_ok-t-in-Not t c =
    IfOk-weaker c.not.result _ _ (λ w k. cond_not_made _ _ _ _ w c.in-Not.is c.get.ensures c.in_ok-t-in-Not.ensures k) c.not.ensures

pub compared_cond-returns-in_ok-u-in-And : goal.compared_cond-returns-in_ok-u-in-And
compared_cond-returns-in_ok-u-in-And t c =
    IfOk-weaker c.and.result _ _
    (λ w k. and_made _ _ _ _ _ _ _ w c.in-And.is c.get-in-And.ensures c.get-in-And-2.ensures c.in_ok-t-in-And.ensures c.in_ok-u-in-And.ensures k)
    c.and.ensures

pub compared_cond-returns-in_ok-u-in-Or : goal.compared_cond-returns-in_ok-u-in-Or
compared_cond-returns-in_ok-u-in-Or t c =
    IfOk-weaker c.or.result _ _
    (λ w k. or_made _ _ _ _ _ _ _ w c.in-Or.is c.get-in-Or.ensures c.get-in-Or-2.ensures c.in_ok-t-in-Or.ensures c.in_ok-u-in-Or.ensures k)
    c.or.ensures

pub compared_word-returns-in_ok-boxed-in-Not : goal.compared_word-returns-in_ok-boxed-in-Not
compared_word-returns-in_ok-boxed-in-Not t c = not_made _ _ _ _ c.in-Not.is refl (c.in_ok-boxed-in-Not.ensures {u = tt})

pub compared_word-returns-in_ok-b-in-Bin : goal.compared_word-returns-in_ok-b-in-Bin
compared_word-returns-in_ok-b-in-Bin t c = bin_made _ _ _ _ _ _ _ c.in-Bin.is refl c.in_ok-a-in-Bin.ensures c.in_ok-b-in-Bin.ensures

pub compared_word-returns-in_ok-boxed-in-Fn1 : goal.compared_word-returns-in_ok-boxed-in-Fn1
compared_word-returns-in_ok-boxed-in-Fn1 t c = fn1_made _ _ _ _ _ c.in-Fn1.is refl (c.in_ok-boxed-in-Fn1.ensures {u = tt})

pub compared_word-returns-in_ok-b-in-Fn2 : goal.compared_word-returns-in_ok-b-in-Fn2
compared_word-returns-in_ok-b-in-Fn2 t c = fn2_made _ _ _ _ _ _ _ c.in-Fn2.is refl c.in_ok-a-in-Fn2.ensures c.in_ok-b-in-Fn2.ensures

pub compared_word-returns-in_ok-c-in-Fn3 : goal.compared_word-returns-in_ok-c-in-Fn3
compared_word-returns-in_ok-c-in-Fn3 t c = fn3_made _ _ _ _ _ _ _ _ _ c.in-Fn3.is refl c.in_ok-a-in-Fn3.ensures c.in_ok-b-in-Fn3.ensures c.in_ok-c-in-Fn3.ensures

pub compared_word-returns-in_ok-b-in-Pick : goal.compared_word-returns-in_ok-b-in-Pick
compared_word-returns-in_ok-b-in-Pick t c =
    pick_made _ _ c.in_ok-t-in-Pick.t _ _ _ _ _ _ c.in-Pick.is c.get.ensures refl (subst (λ u. ForCond c.get.result.now u) (sym c.in_ok-t-in-Pick.ensures) (c.in_ok-compared_cond-in-Pick.ensures {u = tt})) c.in_ok-a-in-Pick.ensures c.in_ok-b-in-Pick.ensures
