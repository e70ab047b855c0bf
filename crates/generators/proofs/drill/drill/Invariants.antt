use Rattle.std.proofs.Common.{◌≡◌}
use Rattle.generators.specs.Code.{pieces, ranges}
use Rattle.generators.proofs.drill.drill.Given as goal

abbrev pub invariant-loop-k : goal.invariant-loop-k
invariant-loop-k l = (l.code.items ≡ pieces l.k) × (l.ranges.items ≡ ranges l.k)
