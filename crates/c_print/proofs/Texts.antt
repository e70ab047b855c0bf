-- What the tactics may use of texts and pages.
use Rattle.c_print.proofs.Shows.{puts-append}
use Rattle.c_print.proofs.Words.{word_not, word_bin, word_fn1, word_fn2, word_fn3, word_pick, cond_cmp, cond_not, cond_and, cond_or}
use Rattle.c_print.proofs.Stmts.{stmt_set, stmt_load, stmt_store, stmt_ext, stmt_trap, stmt_if_none, stmt_if_some, stmt_switch, stmt_loop, stmt_while, stmt_do, stmt_break, stmt_return, arm_is, group_is}

pub ruleset texts =
    (puts-append, word_not, word_bin, word_fn1, word_fn2, word_fn3, word_pick, cond_cmp, cond_not, cond_and, cond_or, stmt_set, stmt_load, stmt_store, stmt_ext, stmt_trap, stmt_if_none, stmt_if_some, stmt_switch, stmt_loop, stmt_while, stmt_do, stmt_break, stmt_return, arm_is, group_is)
