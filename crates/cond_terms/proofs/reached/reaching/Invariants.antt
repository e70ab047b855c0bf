use Rattle.std.proofs.Common.{◌≡◌, length}
use Rattle.cond_terms.proofs.Ordered.{AreGuardsSoFar}
use Rattle.cond_terms.proofs.reached.reaching.Given as goal

abbrev pub invariant-loop-node : goal.invariant-loop-node
invariant-loop-node l = record {
  size : length l.guards.items ≡ l.node-index;
  right : AreGuardsSoFar l.g.entry l.edges l.order.items l.guards.items l.first l.named;
}
