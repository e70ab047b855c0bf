use Rattle.std.proofs.Common.{◌≡◌, ◌++◌, length, reverse}
use Rattle.flow_stretches.proofs.joining.vec_of.Given as goal

abbrev pub invariant-loop-block : goal.invariant-loop-block
invariant-loop-block l = l.rest ++ reverse l.taken.items ≡ l.fn.blocks

abbrev pub decreases-loop-block : goal.decreases-loop-block
decreases-loop-block l = length l.rest
