use Rattle.std.proofs.Common.{sym, subst}
use Rattle.cond_terms.specs.Guards.{AreEdgesOf}
use Rattle.rows_of_text.proofs.guards.branches.Goals as goal
use Rattle.rows_of_text.proofs.guards.branches.Goals.{then-node-count+in_ok-add_branch, else-node-count}

pub loop-node-preserved : goal.loop-node-preserved
loop-node-preserved c =
    elim c.if-node-count.branch [
      | then-node-count+in_ok-add_branch w ↦ subst (AreEdgesOf c.args.g.now) (sym w.list-is) w.in_ok-add_branch.ensures
      | else-node-count w ↦ subst (AreEdgesOf c.args.g.now) (sym w.list-is) c.loop-node.invariant
    ]
