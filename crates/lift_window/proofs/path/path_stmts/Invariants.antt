use Rattle.std.proofs.Common.{ℕ, ◌-◌}
use Rattle.jump_tables.specs.Window.{IsWindow}
use Rattle.lift_window.specs.Walk.{IsWalked}
use Rattle.lift_window.proofs.path.path_stmts.Given as goal

-- what is lifted and what is left of the path is all of it
abbrev pub invariant-loop-taken : goal.invariant-loop-taken
invariant-loop-taken l = (a : ℕ) (win : IsWindow l.m l.r a l.w) → IsWalked l.m l.r l.w.path l.w.jump win.insts (4 - l._taken) l.at l.stmts
