use Rattle.std.proofs.Common.{◌≡◌, ◌+◌, ◌*◌, ◌^◌, take}
use Rattle.drill_lines.specs.Lines.{totals_of}
use Rattle.drill_lines.specs.Sums.{AreBelow}
use Rattle.drill_lines.proofs.line.sums_of.Given as goal

abbrev pub invariant-loop-counts : goal.invariant-loop-counts
invariant-loop-counts l = record { sums : l.sums ≡ totals_of (take l.counts-index l.all); small : AreBelow (l.counts-index * 2 ^ 64 + 1) l.sums }
