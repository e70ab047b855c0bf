use Rattle.std.proofs.Common.{◌≡◌, drop, map}
use Rattle.c_syntax.specs.Text.{all, stmt_text, arm_text, group_text, arms_text}
use Rattle.c_print.specs.Page.{puts}
use Rattle.c_print.proofs.Loops.{arms_from}
use Rattle.c_print.proofs.stmt.+stmt.Given as goal

-- the statements so far are put
abbrev pub invariant-put_all-loop-s : goal.invariant-put_all-loop-s
invariant-put_all-loop-s l = puts l.page (all (map stmt_text (drop l.s-index l.stmts)) l.level) ≡ puts l.initial.page (all (map stmt_text l.stmts) l.level)

-- the arms so far, and the sign before the next
abbrev pub invariant-put_arms-loop-arm : goal.invariant-put_arms-loop-arm
invariant-put_arms-loop-arm l = puts l.page (arms_from l.sign (map arm_text (drop l.arm-index l.arms)) l.level) ≡ puts l.initial.page (arms_text (map arm_text l.arms) l.level)

-- the groups so far
abbrev pub invariant-put_groups-loop-group : goal.invariant-put_groups-loop-group
invariant-put_groups-loop-group l = puts l.page (all (map group_text (drop l.group-index l.groups)) l.level) ≡ puts l.initial.page (all (map group_text l.groups) l.level)
