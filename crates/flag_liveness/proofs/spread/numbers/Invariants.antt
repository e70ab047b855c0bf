use Rattle.std.proofs.Common.{◌≡◌, length}
use Rattle.flag_liveness.proofs.spread.numbers.Given as goal

abbrev pub invariant-loop-k : goal.invariant-loop-k
invariant-loop-k l = length l.numbers.items ≡ l.k
