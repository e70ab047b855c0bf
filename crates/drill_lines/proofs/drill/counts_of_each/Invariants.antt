use Rattle.std.proofs.Common.{take}
use Rattle.std.specs.List.{AllZip}
use Rattle.drill_lines.specs.Counts.{HasCountsIn}
use Rattle.drill_lines.proofs.drill.counts_of_each.Given as goal

abbrev pub invariant-loop-r : goal.invariant-loop-r
invariant-loop-r l = AllZip (HasCountsIn l.m) (take l.r-index l.ranges) l.all.items
