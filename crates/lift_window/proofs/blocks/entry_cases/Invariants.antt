use Rattle.std.proofs.Common.{◌≡◌}
use Rattle.lift_window.specs.Window.{entry_cases}
use Rattle.lift_window.proofs.blocks.entry_cases.Given as goal

abbrev pub invariant-loop-k : goal.invariant-loop-k
invariant-loop-k l = l.cases.items ≡ entry_cases l.k
