use Rattle.flow_stretches.proofs.Coming.{ComersUpTo}
use Rattle.flow_stretches.proofs.comers.comers_in.Given as goal

abbrev pub invariant-loop-k : goal.invariant-loop-k
invariant-loop-k l = ComersUpTo l.g l.k l.comers.items
