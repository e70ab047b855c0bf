use Rattle.micro_ir.specs.declared.flow.Stmt.TheVariants as stmt
use Rattle.expr_fold.proofs.Folded.{takes_into_after}
use Rattle.expr_fold.proofs.policy.step_into.Goals as goal

pub returns : goal.returns
returns c =
    let old = c.args.folding.now in
    let first = c.set_chosen.new.folding in
    let last = c.take_load_into.new.self in
    λ t. takes_into_after (stmt.Load c.args.t c.args.width c.args.e.now) c.args.r old.done old.delayed.items first.done first.delayed.items last.done last.delayed.items
    (c.in_ok-set_chosen.ensures {u = tt}) (c.in_ok-taken.ensures {u = tt} t)
