use Rattle.std.proofs.Common.{reverse}
use Rattle.read_statements.specs.Turns.{breakable, depth_left}
use Rattle.read_statements.proofs.Refused.{no_depth, no_target, no_if, no_switch, no_while, no_do, no_break, no_stmt}
use Rattle.read_statements.proofs.turns.at_stmt.Goals as goal
use Rattle.read_statements.proofs.turns.at_stmt.Goals.{in_default-via-in-Name+else-may_set, in_default-via-in-If+else-nests, in_default-via-in-Switch+else-nests-2, in_default-via-in-While+else-nests-3, in_default-via-in-Do+else-nests-4, in_default-via-in-Break+else-breakable, in_default-via-in_default}

pub returns-in_default : goal.returns-in_default
returns-in_default c =
    let l = c.args.locals in
    let b = breakable (reverse c.args.around.now) in
    let left = depth_left (reverse c.args.around.now) in
    let x = c.args.token in
    let n = c.depth_left-nests.result in
    elim c.in_default.branch [
      | in_default-via-in-Name+else-may_set w ↦ no_target l b left x w.in-Name.name w.in-Name.is w.if-may_set.ensures
      | in_default-via-in-If+else-nests w ↦ no_if l b left x w.in-If.is (no_depth n left w.if-nests.false c.depth_left-nests.ensures)
      | in_default-via-in-Switch+else-nests-2 w ↦ no_switch l b left x w.in-Switch.is (no_depth n left w.if-nests-2.false c.depth_left-nests.ensures)
      | in_default-via-in-While+else-nests-3 w ↦ no_while l b left x w.in-While.is (no_depth n left w.if-nests-3.false c.depth_left-nests.ensures)
      | in_default-via-in-Do+else-nests-4 w ↦ no_do l b left x w.in-Do.is (no_depth n left w.if-nests-4.false c.depth_left-nests.ensures)
      | in_default-via-in-Break+else-breakable w ↦ no_break l b left x w.in-Break.is w.if-breakable.ensures
      | in_default-via-in_default w ↦ no_stmt l b left x (record {
        name = w.in_default.not-Name;
        store = w.in_default.not-St;
        ext = w.in_default.not-Ext;
        trap = w.in_default.not-Trap;
        if' = w.in_default.not-If;
        switch = w.in_default.not-Switch;
        while = w.in_default.not-While;
        do' = w.in_default.not-Do;
        break = w.in_default.not-Break;
        return = w.in_default.not-Return;
        end = w.in_default.not-End;
      })
    ]
