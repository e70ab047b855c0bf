use Rattle.std.proofs.Common.{◌≡◌, ◌++◌, drop, map}
use Rattle.flow_plans.specs.Emitted.{joined, trees_of}
use Rattle.flow_plans.proofs.emit.+emit.Given as goal

abbrev pub invariant-add_all-loop-p : goal.invariant-add_all-loop-p
invariant-add_all-loop-p l = l.trees ++ joined (map (trees_of l.blocks) (drop l.p-index l.plans)) ≡ l.initial.trees ++ joined (map (trees_of l.blocks) l.plans)
