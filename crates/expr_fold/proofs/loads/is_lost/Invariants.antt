use Rattle.std.proofs.Common.{drop}
use Rattle.flag_liveness.specs.Before.{live_at}
use Rattle.flag_liveness.specs.Lives.{live_of}
use Rattle.expr_fold.specs.Follows.{IsLost}
use Rattle.expr_fold.proofs.loads.is_lost.Given as goal

abbrev pub invariant-loop-s : goal.invariant-loop-s
invariant-loop-s l = IsLost (live_at l.end (live_of l.live)) (drop l.s-index l.stmts) l.t → IsLost (live_at l.end (live_of l.live)) l.stmts l.t
