use Rattle.std.proofs.Common.{◌≡◌, map, drop}
use Rattle.c_locals.specs.Marks.{all_in, with_stmt, with_arm, with_group}
use Rattle.c_locals.proofs.marks.+mark_stmt.Given as goal

abbrev pub invariant-stmts-loop-s : goal.invariant-stmts-loop-s
invariant-stmts-loop-s l = all_in (map with_stmt (drop l.s-index l.body)) l.m ≡ all_in (map with_stmt l.body) l.fn.m

abbrev pub invariant-in_arms-loop-a : goal.invariant-in_arms-loop-a
invariant-in_arms-loop-a l = all_in (map with_arm (drop l.a-index l.arms)) l.m ≡ all_in (map with_arm l.arms) l.fn.m

abbrev pub invariant-in_groups-loop-g : goal.invariant-in_groups-loop-g
invariant-in_groups-loop-g l = all_in (map with_group (drop l.g-index l.groups)) l.m ≡ all_in (map with_group l.groups) l.fn.m
