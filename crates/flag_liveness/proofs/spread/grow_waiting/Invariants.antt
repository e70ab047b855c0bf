use Rattle.std.proofs.Common.{length}
use Rattle.flag_liveness.proofs.Spreading.{HaveGrown}
use Rattle.flag_liveness.proofs.spread.grow_waiting.Given as goal

abbrev pub invariant-loop-k : goal.invariant-loop-k
invariant-loop-k l = HaveGrown l.blocks l.initial.live l.live l.more

abbrev pub decreases-loop-k : goal.decreases-loop-k
decreases-loop-k l = length l.waiting.items
