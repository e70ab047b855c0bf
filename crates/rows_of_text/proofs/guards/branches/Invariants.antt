use Rattle.cond_terms.specs.Guards.{AreEdgesOf}
use Rattle.rows_of_text.proofs.guards.branches.Given as goal

abbrev pub invariant-loop-node : goal.invariant-loop-node
invariant-loop-node l = AreEdgesOf l.g l.list
