use Rattle.flow_stretches.proofs.Marking.{NamesUpTo}
use Rattle.flow_stretches.proofs.paths.names_in.Given as goal

abbrev pub invariant-loop-first : goal.invariant-loop-first
invariant-loop-first l = NamesUpTo l.firsts l.first-index l.names.items l.count
