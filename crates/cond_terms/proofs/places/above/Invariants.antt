use Rattle.std.proofs.Common.{◌<◌, ℕ, get_or}
use Rattle.cond_terms.proofs.places.above.Given as goal

abbrev pub invariant-loop-node : goal.invariant-loop-node
invariant-loop-node l = (k d : ℕ) → k < l.node-index → get_or l.order k d < l.above
