use Rattle.flow_stretches.proofs.Follows.{FirstsUpTo}
use Rattle.flow_stretches.proofs.following.firsts_in.Given as goal

abbrev pub invariant-loop-after : goal.invariant-loop-after
invariant-loop-after l = FirstsUpTo l.next l.after-index l.fn.reached.items l.firsts.items
