use Rattle.expr_fold.proofs.Counting.{notes_name, notes_num, notes_not, notes_fn1, notes_bin, notes_fn2, notes_fn3, notes_pick, notes_cmp, notes_cond_not, notes_and, notes_or}
use Rattle.expr_fold.proofs.counts.Reads.+note.Goals as goal

pub note_cond-returns-in_ok-note_word-in-Cmp-2 : goal.note_cond-returns-in_ok-note_word-in-Cmp-2
note_cond-returns-in_ok-note_word-in-Cmp-2 t c = notes_cmp _ _ _ _ _ _ _ c.in-Cmp.is c.in_ok-note_word-in-Cmp.ensures c.in_ok-note_word-in-Cmp-2.ensures

pub note_cond-returns-in_ok-note_cond-in-Not : goal.note_cond-returns-in_ok-note_cond-in-Not
note_cond-returns-in_ok-note_cond-in-Not t c = notes_cond_not _ _ _ _ _ c.in-Not.is c.get.ensures c.in_ok-note_cond-in-Not.ensures

pub note_cond-returns-in_ok-note_cond-in-And-2 : goal.note_cond-returns-in_ok-note_cond-in-And-2
note_cond-returns-in_ok-note_cond-in-And-2 t c = notes_and _ _ _ _ _ _ _ _ c.in-And.is c.get-in-And.ensures c.get-in-And-2.ensures c.in_ok-note_cond-in-And.ensures c.in_ok-note_cond-in-And-2.ensures

pub note_cond-returns-in_ok-note_cond-in-Or-2 : goal.note_cond-returns-in_ok-note_cond-in-Or-2
note_cond-returns-in_ok-note_cond-in-Or-2 t c = notes_or _ _ _ _ _ _ _ _ c.in-Or.is c.get-in-Or.ensures c.get-in-Or-2.ensures c.in_ok-note_cond-in-Or.ensures c.in_ok-note_cond-in-Or-2.ensures

pub note_word-returns-in_ok-note_name-in-Name : goal.note_word-returns-in_ok-note_name-in-Name
note_word-returns-in_ok-note_name-in-Name t c = notes_name _ _ _ _ c.in-Name.is c.in_ok-note_name-in-Name.ensures

pub note_word-returns-in-Num : goal.note_word-returns-in-Num
note_word-returns-in-Num t c = notes_num _ _ _ c.in-Num.is

pub note_word-returns-in_ok-note_word-in-Not : goal.note_word-returns-in_ok-note_word-in-Not
note_word-returns-in_ok-note_word-in-Not t c = notes_not _ _ _ _ _ c.in-Not.is c.get.ensures c.in_ok-note_word-in-Not.ensures

pub note_word-returns-in_ok-note_word-in-Bin-2 : goal.note_word-returns-in_ok-note_word-in-Bin-2
note_word-returns-in_ok-note_word-in-Bin-2 t c = notes_bin _ _ _ _ _ _ _ _ _ c.in-Bin.is c.get-in-Bin.ensures c.get-in-Bin-2.ensures c.in_ok-note_word-in-Bin.ensures c.in_ok-note_word-in-Bin-2.ensures

pub note_word-returns-in_ok-note_word-in-Fn1 : goal.note_word-returns-in_ok-note_word-in-Fn1
note_word-returns-in_ok-note_word-in-Fn1 t c = notes_fn1 _ _ _ _ _ _ c.in-Fn1.is c.get-in-Fn1.ensures c.in_ok-note_word-in-Fn1.ensures

pub note_word-returns-in_ok-note_word-in-Fn2-2 : goal.note_word-returns-in_ok-note_word-in-Fn2-2
note_word-returns-in_ok-note_word-in-Fn2-2 t c = notes_fn2 _ _ _ _ _ _ _ _ _ c.in-Fn2.is c.get-in-Fn2.ensures c.get-in-Fn2-2.ensures c.in_ok-note_word-in-Fn2.ensures c.in_ok-note_word-in-Fn2-2.ensures

pub note_word-returns-in_ok-note_word-in-Fn3-3 : goal.note_word-returns-in_ok-note_word-in-Fn3-3
note_word-returns-in_ok-note_word-in-Fn3-3 t c = notes_fn3 _ _ _ _ _ _ _ _ _ _ _ _ c.in-Fn3.is c.get-in-Fn3.ensures c.get-in-Fn3-2.ensures c.get-in-Fn3-3.ensures c.in_ok-note_word-in-Fn3.ensures c.in_ok-note_word-in-Fn3-2.ensures c.in_ok-note_word-in-Fn3-3.ensures

pub note_word-returns-in_ok-note_word-in-Pick-2 : goal.note_word-returns-in_ok-note_word-in-Pick-2
note_word-returns-in_ok-note_word-in-Pick-2 t c = notes_pick _ _ _ _ _ _ _ _ _ _ _ c.in-Pick.is c.get-in-Pick.ensures c.get-in-Pick-2.ensures c.get-in-Pick-3.ensures c.in_ok-note_cond-in-Pick.ensures c.in_ok-note_word-in-Pick.ensures c.in_ok-note_word-in-Pick-2.ensures
