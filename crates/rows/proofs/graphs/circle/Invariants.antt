use Rattle.std.proofs.Common.{◌≡◌, length}
use Rattle.rows.proofs.graphs.circle.Given as goal

abbrev pub invariant-loop-k : goal.invariant-loop-k
invariant-loop-k l = length l.made.items ≡ l.k
