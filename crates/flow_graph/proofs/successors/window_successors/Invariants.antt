use Rattle.std.proofs.Common.{◌≡◌, ◌∷◌}
use Rattle.jump_tables.specs.Window.{targets_of}
use Rattle.flow_graph.proofs.successors.window_successors.Given as goal

-- the default and the targets so far
abbrev pub invariant-loop-k : goal.invariant-loop-k
invariant-loop-k l = l.all.items ≡ l.w.default ∷ targets_of l.m l.w l.k
