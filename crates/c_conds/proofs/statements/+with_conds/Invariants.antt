use Rattle.std.proofs.Common.{take}
use Rattle.c_conds.specs.Placed.{AreLike, ArmsLike, GroupsLike}
use Rattle.c_conds.proofs.statements.+with_conds.Given as goal

abbrev pub invariant-stmts-loop-s : goal.invariant-stmts-loop-s
invariant-stmts-loop-s l = AreLike (take l.s-index l.body) l.kept

abbrev pub invariant-in_arms-loop-a : goal.invariant-in_arms-loop-a
invariant-in_arms-loop-a l = ArmsLike l.before (take l.a-index l.arms) l.kept

abbrev pub invariant-in_groups-loop-g : goal.invariant-in_groups-loop-g
invariant-in_groups-loop-g l = GroupsLike (take l.g-index l.groups) l.kept
