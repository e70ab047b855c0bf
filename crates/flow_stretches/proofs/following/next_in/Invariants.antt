use Rattle.flow_stretches.proofs.Follows.{NextUpTo}
use Rattle.flow_stretches.proofs.following.next_in.Given as goal

abbrev pub invariant-loop-k : goal.invariant-loop-k
invariant-loop-k l = NextUpTo (record { entry = l.entry; blocks = l.blocks }) l.k l.next.items
