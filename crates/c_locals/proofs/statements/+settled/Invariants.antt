use Rattle.std.proofs.Common.{◌≡◌, ◌++◌, map, drop}
use Rattle.c_locals.specs.Settled.{settled_all, settled_arm, settled_group}
use Rattle.c_locals.proofs.statements.+settled.Given as goal

abbrev pub invariant-stmts-loop-s : goal.invariant-stmts-loop-s
invariant-stmts-loop-s l = l.kept ++ settled_all l.l (drop l.s-index l.body) ≡ settled_all l.l l.body

abbrev pub invariant-in_arms-loop-a : goal.invariant-in_arms-loop-a
invariant-in_arms-loop-a l = l.kept ++ map (settled_arm l.l) (drop l.a-index l.arms) ≡ map (settled_arm l.l) l.arms

abbrev pub invariant-in_groups-loop-g : goal.invariant-in_groups-loop-g
invariant-in_groups-loop-g l = l.kept ++ map (settled_group l.l) (drop l.g-index l.groups) ≡ map (settled_group l.l) l.groups
