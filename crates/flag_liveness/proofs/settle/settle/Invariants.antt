use Rattle.std.proofs.Common.{◌≡◌, length}
use Rattle.flag_liveness.specs.Lives.{live_of}
use Rattle.flag_liveness.specs.Settled.{unset_in}
use Rattle.flag_liveness.specs.Reasons.{HaveReasons}
use Rattle.flag_liveness.proofs.settle.settle.Given as goal

abbrev pub invariant-rounds : goal.invariant-rounds
invariant-rounds l = record {
  size : length l.live.rows.items ≡ length l.blocks;
  temps : l.live.temps ≡ l.initial.live.temps;
  reasons : HaveReasons l.blocks (live_of l.live);
}

abbrev pub decreases-rounds : goal.decreases-rounds
decreases-rounds l = unset_in l.live
