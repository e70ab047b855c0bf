use Rattle.expr_fold.specs.Follows.{Waits}
use Rattle.expr_fold.proofs.order.set_chosen.Given as goal

abbrev pub invariant-loop-turn : goal.invariant-loop-turn
invariant-loop-turn l = Waits l.fn.folding.done l.fn.folding.delayed.items l.folding.done l.folding.delayed.items
