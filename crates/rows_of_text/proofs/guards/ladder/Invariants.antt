use Rattle.std.proofs.Common.{◌≡◌, length}
use Rattle.rows_of_text.proofs.guards.ladder.Given as goal

abbrev pub invariant-loop-node : goal.invariant-loop-node
invariant-loop-node l = length l.made.items ≡ l.node
