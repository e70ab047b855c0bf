use Rattle.std.proofs.Common.{take}
use Rattle.flag_liveness.specs.Lives.{live_of}
use Rattle.expr_fold.specs.Folds.{FoldsBlocks}
use Rattle.expr_fold.proofs.blocks.blocks.Given as goal

abbrev pub invariant-loop-b : goal.invariant-loop-b
invariant-loop-b l = FoldsBlocks (live_of l.live) 0 (take l.b-index l.all) l.made
