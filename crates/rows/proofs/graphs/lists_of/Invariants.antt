use Rattle.std.proofs.Common.{◌≡◌, length}
use Rattle.rows.proofs.graphs.lists_of.Given as goal

abbrev pub invariant-loop-list : goal.invariant-loop-list
invariant-loop-list l = length l.made.items ≡ l.list-index
