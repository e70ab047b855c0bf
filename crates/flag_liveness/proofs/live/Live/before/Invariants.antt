use Rattle.flag_liveness.specs.Before.{live_at}
use Rattle.flag_liveness.specs.Lives.{live_of, across_of}
use Rattle.flag_liveness.proofs.Going.{Goes}
use Rattle.flag_liveness.proofs.live.Live.before.Given as goal

abbrev pub invariant-loop-k : goal.invariant-loop-k
invariant-loop-k l = Goes (across_of l.self) l.stmts l.k (live_at l.b.end (live_of l.self)) l.seen

abbrev pub decreases-loop-k : goal.decreases-loop-k
decreases-loop-k l = l.k
