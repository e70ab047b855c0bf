use Rattle.std.proofs.Common.{◌≤◌, ◌-◌, length}
use Rattle.flag_liveness.specs.Before.{live_at}
use Rattle.flag_liveness.specs.Lives.{live_of}
use Rattle.expr_fold.specs.Follows.{FollowsFirst}
use Rattle.expr_fold.proofs.blocks.statements.Given as goal

abbrev pub invariant-loop-at : goal.invariant-loop-at
invariant-loop-at l = (l.at ≤ length l.stmts) × FollowsFirst (live_at l.end (live_of l.live)) l.stmts l.at l.folding.done l.folding.delayed.items

abbrev pub decreases-loop-at : goal.decreases-loop-at
decreases-loop-at l = length l.stmts - l.at
