use Rattle.std.proofs.Common.{◌<◌, take}
use Rattle.flow_stretches.proofs.Taking.{IsTaken}
use Rattle.flow_stretches.proofs.joining.joined_blocks.Given as goal

abbrev pub invariant-loop-i : goal.invariant-loop-i
invariant-loop-i l = (0 < l.i) × IsTaken l.fn.blocks (take l.i l.nodes) l.joined l.blocks
