use Rattle.std.specs.Prelude.{IfSome}
use Rattle.x86_encode.specs.Least.{SpellsIt}
use Rattle.x86_encode.proofs.Best.{Reached}
use Rattle.x86_encode.proofs.encoder.encode.Given as goal

abbrev pub invariant-loop-row : goal.invariant-loop-row
invariant-loop-row l = IfSome l.best (SpellsIt l.i) × Reached l.i l.row-items l.row-index l.best
