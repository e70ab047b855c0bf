use Rattle.std.proofs.Common.{◌≡◌, drop}
use Rattle.flag_liveness.specs.Lives.{live_of}
use Rattle.expr_fold.specs.Ends.{none_seen_after}
use Rattle.expr_fold.proofs.ends.none_seen_after.Given as goal

abbrev pub invariant-loop-d : goal.invariant-loop-d
invariant-loop-d l = none_seen_after l.e (live_of l.live) (drop l.d-index l.delayed) ≡ none_seen_after l.e (live_of l.live) l.delayed
