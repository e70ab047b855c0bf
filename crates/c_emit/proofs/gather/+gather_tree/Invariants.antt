use Rattle.std.proofs.Common.{◌≡◌, map, drop}
use Rattle.c_emit.specs.Gathered.{all_in, with_tree, with_case}
use Rattle.c_emit.proofs.gather.+gather_tree.Given as goal

abbrev pub invariant-all-loop-t : goal.invariant-all-loop-t
invariant-all-loop-t l = all_in (map with_tree (drop l.t-index l.trees)) l.l ≡ all_in (map with_tree l.trees) l.fn.l

abbrev pub invariant-in_cases-loop-c : goal.invariant-in_cases-loop-c
invariant-in_cases-loop-c l = all_in (map with_case (drop l.c-index l.cases)) l.l ≡ all_in (map with_case l.cases) l.fn.l
