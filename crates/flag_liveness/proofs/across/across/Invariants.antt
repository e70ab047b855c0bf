use Rattle.std.specs.Ordering.{nat_cmp}
use Rattle.std.specs.BTreeSet as set
use Rattle.flag_liveness.proofs.Crossing.{Crossed}
use Rattle.flag_liveness.proofs.across.across.Given as goal

abbrev pub invariant-loop-b : goal.invariant-loop-b
invariant-loop-b l = Crossed l.blocks l.b-index (set.contains nat_cmp l.temps)
