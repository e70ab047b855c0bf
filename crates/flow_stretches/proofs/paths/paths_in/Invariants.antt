use Rattle.std.proofs.Common.{map, take}
use Rattle.flow_stretches.specs.Known.{ArePaths}
use Rattle.flow_stretches.proofs.paths.paths_in.Given as goal

abbrev pub invariant-loop-n : goal.invariant-loop-n
invariant-loop-n l = ArePaths l.next (take l.n l.firsts) (map (λ v. v.items) l.paths.items)
