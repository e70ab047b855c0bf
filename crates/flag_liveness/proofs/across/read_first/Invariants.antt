use Rattle.flow_passes.specs.Uses.{end_reads}
use Rattle.flag_liveness.proofs.Going.{Reads}
use Rattle.flag_liveness.proofs.across.read_first.Given as goal

abbrev pub invariant-loop-k : goal.invariant-loop-k
invariant-loop-k l = Reads l.stmts l.k (end_reads l.b.end) l.seen

abbrev pub decreases-loop-k : goal.decreases-loop-k
decreases-loop-k l = l.k
