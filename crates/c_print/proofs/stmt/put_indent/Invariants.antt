use Rattle.std.proofs.Common.{◌≡◌, ◌*◌, replicate}
use Rattle.c_print.specs.Page.{puts}
use Rattle.c_print.proofs.stmt.put_indent.Given as goal

-- two blanks a step
abbrev pub invariant-loop-step : goal.invariant-loop-step
invariant-loop-step l = l.page ≡ puts l.initial.page (replicate (2 * l._step) 32)
