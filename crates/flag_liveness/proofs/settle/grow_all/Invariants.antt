use Rattle.flag_liveness.proofs.Growing.{Grown}
use Rattle.flag_liveness.proofs.settle.grow_all.Given as goal

abbrev pub invariant-loop-k : goal.invariant-loop-k
invariant-loop-k l = Grown l.blocks l.initial.live l.live l.more l.k

abbrev pub decreases-loop-k : goal.decreases-loop-k
decreases-loop-k l = l.k
