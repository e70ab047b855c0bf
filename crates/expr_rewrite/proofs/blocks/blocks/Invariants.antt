use Rattle.std.proofs.Common.{take}
use Rattle.expr_rewrite.specs.Pairs.{Pairs}
use Rattle.expr_rewrite.specs.Rewritten.{StandsForBlock}
use Rattle.expr_rewrite.proofs.blocks.blocks.Given as goal

abbrev pub invariant-loop-b : goal.invariant-loop-b
invariant-loop-b l = Pairs StandsForBlock (take l.b-index l.all) l.made
