use Rattle.std.proofs.Common.{◌≡◌, ◌-◌}
use Rattle.jump_tables.specs.Forms.{at_first}
use Rattle.jump_tables.specs.Known.{known_of}
use Rattle.jump_tables.specs.Found.{jump_from}
use Rattle.jump_tables.proofs.windows.jump_from.Given as goal

-- what is found is what the steps that are left find from here on
abbrev pub invariant-loop-step : goal.invariant-loop-step
invariant-loop-step l = jump_from l.m l.r l.index 5 (at_first l.index) l.path ≡ jump_from l.m l.r l.index (5 - l._step) (known_of l.known) l.at
