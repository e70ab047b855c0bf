use Rattle.std.proofs.Common.{◌≡◌, length}
use Rattle.flag_liveness.proofs.comers.nobody.Given as goal

abbrev pub invariant-loop : goal.invariant-loop
invariant-loop l = length l.comers.items ≡ l.counter
