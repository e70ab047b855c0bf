use Rattle.std.proofs.Common.{arith}
use Rattle.expr_fold.proofs.Folded.{follows_more}
use Rattle.expr_fold.proofs.blocks.take_one.Goals as goal

pub returns-then-branch : goal.returns-then-branch
returns-then-branch c =
    let old = c.args.folding.now in
    let new = c.step.new.folding in
    let inside = c.requires in
    λ last. (
      omega arith,
      omega (arith, inside),
      follows_more last c.args.stmts.now c.args.at c.index-stmts-at.result old.done old.delayed.items new.done new.delayed.items inside c.index-stmts-at.is (c.in_ok-step.ensures {u = tt} c.if-branch.true),
    )
