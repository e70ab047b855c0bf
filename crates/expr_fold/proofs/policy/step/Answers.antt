use Rattle.expr_fold.proofs.Folded.{takes_between}
use Rattle.expr_fold.proofs.policy.step.Goals as goal

pub returns : goal.returns
returns c =
    let old = c.args.folding.now in
    let first = c.set_chosen.new.folding in
    let taken = c.take.new.self in
    let last = c.set_chosen-2.new.folding in
    λ t. takes_between c.args.s.now old.done old.delayed.items first.done first.delayed.items taken.done taken.delayed.items last.done last.delayed.items
    (c.in_ok-set_chosen.ensures {u = tt}) (c.in_ok-take.ensures {u = tt} c.if-not-branch.false) (c.in_ok-set_chosen-2.ensures {u = tt})
