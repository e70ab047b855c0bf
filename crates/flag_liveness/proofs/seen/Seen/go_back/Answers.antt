use Rattle.flag_liveness.proofs.Back.{back_set, back_load, back_store, back_ext, back_trap}
use Rattle.flag_liveness.proofs.seen.Seen.go_back.Goals as goal

pub returns-in_ok-add_word-in-Set : goal.returns-in_ok-add_word-in-Set
returns-in_ok-add_word-in-Set c = back_set _ _ _ _ _ _ c.in-Set.is c.in_ok-set-in-Set.ensures c.in_ok-add_word-in-Set.ensures

pub returns-in_ok-add_word-in-Load : goal.returns-in_ok-add_word-in-Load
returns-in_ok-add_word-in-Load c = back_load _ _ _ _ _ _ _ c.in-Load.is c.in_ok-set-in-Load.ensures c.in_ok-add_word-in-Load.ensures

pub returns-in_ok-add_word-in-Store-2 : goal.returns-in_ok-add_word-in-Store-2
returns-in_ok-add_word-in-Store-2 c = back_store _ _ _ _ _ _ _ c.in-Store.is c.in_ok-add_word-in-Store.ensures c.in_ok-add_word-in-Store-2.ensures

pub returns-in_ok-add_word-in-Ext : goal.returns-in_ok-add_word-in-Ext
returns-in_ok-add_word-in-Ext c = back_ext _ _ _ _ _ c.in-Ext.is c.call.ensures c.in_ok-add_word-in-Ext.ensures

pub returns-in_ok-add_word-in-Trap : goal.returns-in_ok-add_word-in-Trap
returns-in_ok-add_word-in-Trap c = back_trap _ _ _ _ _ c.in-Trap.is c.in_ok-add_word-in-Trap.ensures
