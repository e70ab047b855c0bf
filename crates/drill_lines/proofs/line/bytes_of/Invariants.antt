use Rattle.std.proofs.Common.{◌≡◌, ◌*◌, ◌^◌, ◌≤◌, take}
use Rattle.drill_lines.specs.Lines.{bytes_in}
use Rattle.drill_lines.proofs.line.bytes_of.Given as goal

abbrev pub invariant-loop-r : goal.invariant-loop-r
invariant-loop-r l = record { sum : l.bytes ≡ bytes_in (take l.r-index l.ranges); small : l.bytes ≤ l.r-index * 2 ^ 32 }
