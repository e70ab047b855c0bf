use Rattle.std.proofs.Common.{◌≡◌, ◌++◌, map, drop}
use Rattle.c_emit.specs.Emitted.{new_name, printed, case_printed, all_stmts}
use Rattle.c_emit.proofs.trees.+emit.Given as goal

abbrev pub invariant-sequence-loop-t : goal.invariant-sequence-loop-t
invariant-sequence-loop-t l = l.body ++ all_stmts (map (printed (new_name l.l)) (drop l.t-index l.members)) ≡ all_stmts (map (printed (new_name l.l)) l.members)

abbrev pub invariant-groups-loop-c : goal.invariant-groups-loop-c
invariant-groups-loop-c l = l.groups ++ map (case_printed (new_name l.l)) (drop l.c-index l.cases) ≡ map (case_printed (new_name l.l)) l.cases
