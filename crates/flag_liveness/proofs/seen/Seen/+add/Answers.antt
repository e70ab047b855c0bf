use Rattle.flag_liveness.proofs.Adding.{adds_name, adds_num, adds_not, adds_fn1, adds_bin, adds_fn2, adds_fn3, adds_pick, adds_cmp, adds_cond_not, adds_and, adds_or}
use Rattle.flag_liveness.proofs.seen.Seen.+add.Goals as goal

pub add_cond-returns-in_ok-add_word-in-Cmp-2 : goal.add_cond-returns-in_ok-add_word-in-Cmp-2
add_cond-returns-in_ok-add_word-in-Cmp-2 t c = adds_cmp _ _ _ _ _ _ _ c.in-Cmp.is c.in_ok-add_word-in-Cmp.ensures c.in_ok-add_word-in-Cmp-2.ensures

pub add_cond-returns-in_ok-add_cond-in-Not : goal.add_cond-returns-in_ok-add_cond-in-Not
add_cond-returns-in_ok-add_cond-in-Not t c = adds_cond_not _ _ _ _ _ c.in-Not.is c.get.ensures c.in_ok-add_cond-in-Not.ensures

pub add_cond-returns-in_ok-add_cond-in-And-2 : goal.add_cond-returns-in_ok-add_cond-in-And-2
add_cond-returns-in_ok-add_cond-in-And-2 t c = adds_and _ _ _ _ _ _ _ _ c.in-And.is c.get-in-And.ensures c.get-in-And-2.ensures c.in_ok-add_cond-in-And.ensures c.in_ok-add_cond-in-And-2.ensures

pub add_cond-returns-in_ok-add_cond-in-Or-2 : goal.add_cond-returns-in_ok-add_cond-in-Or-2
add_cond-returns-in_ok-add_cond-in-Or-2 t c = adds_or _ _ _ _ _ _ _ _ c.in-Or.is c.get-in-Or.ensures c.get-in-Or-2.ensures c.in_ok-add_cond-in-Or.ensures c.in_ok-add_cond-in-Or-2.ensures

pub add_word-returns-in_ok-add_name-in-Name : goal.add_word-returns-in_ok-add_name-in-Name
add_word-returns-in_ok-add_name-in-Name t c = adds_name _ _ _ _ c.in-Name.is c.in_ok-add_name-in-Name.ensures

pub add_word-returns-in-Num : goal.add_word-returns-in-Num
add_word-returns-in-Num t c = adds_num _ _ _ c.in-Num.is

pub add_word-returns-in_ok-add_word-in-Not : goal.add_word-returns-in_ok-add_word-in-Not
add_word-returns-in_ok-add_word-in-Not t c = adds_not _ _ _ _ _ c.in-Not.is c.get.ensures c.in_ok-add_word-in-Not.ensures

pub add_word-returns-in_ok-add_word-in-Bin-2 : goal.add_word-returns-in_ok-add_word-in-Bin-2
add_word-returns-in_ok-add_word-in-Bin-2 t c = adds_bin _ _ _ _ _ _ _ _ _ c.in-Bin.is c.get-in-Bin.ensures c.get-in-Bin-2.ensures c.in_ok-add_word-in-Bin.ensures c.in_ok-add_word-in-Bin-2.ensures

pub add_word-returns-in_ok-add_word-in-Fn1 : goal.add_word-returns-in_ok-add_word-in-Fn1
add_word-returns-in_ok-add_word-in-Fn1 t c = adds_fn1 _ _ _ _ _ _ c.in-Fn1.is c.get-in-Fn1.ensures c.in_ok-add_word-in-Fn1.ensures

pub add_word-returns-in_ok-add_word-in-Fn2-2 : goal.add_word-returns-in_ok-add_word-in-Fn2-2
add_word-returns-in_ok-add_word-in-Fn2-2 t c = adds_fn2 _ _ _ _ _ _ _ _ _ c.in-Fn2.is c.get-in-Fn2.ensures c.get-in-Fn2-2.ensures c.in_ok-add_word-in-Fn2.ensures c.in_ok-add_word-in-Fn2-2.ensures

pub add_word-returns-in_ok-add_word-in-Fn3-3 : goal.add_word-returns-in_ok-add_word-in-Fn3-3
add_word-returns-in_ok-add_word-in-Fn3-3 t c = adds_fn3 _ _ _ _ _ _ _ _ _ _ _ _ c.in-Fn3.is c.get-in-Fn3.ensures c.get-in-Fn3-2.ensures c.get-in-Fn3-3.ensures c.in_ok-add_word-in-Fn3.ensures c.in_ok-add_word-in-Fn3-2.ensures c.in_ok-add_word-in-Fn3-3.ensures

pub add_word-returns-in_ok-add_word-in-Pick-2 : goal.add_word-returns-in_ok-add_word-in-Pick-2
add_word-returns-in_ok-add_word-in-Pick-2 t c = adds_pick _ _ _ _ _ _ _ _ _ _ _ c.in-Pick.is c.get-in-Pick.ensures c.get-in-Pick-2.ensures c.get-in-Pick-3.ensures c.in_ok-add_cond-in-Pick.ensures c.in_ok-add_word-in-Pick.ensures c.in_ok-add_word-in-Pick-2.ensures
