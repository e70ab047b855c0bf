use Rattle.std.proofs.Common.{◌≡◌, ℕ, ◌+◌, nat_eq, drop}
use Rattle.std.specs.HashMap.{get}
use Rattle.range_flow.specs.Nodes.{total_of, number_from, or_else}
use Rattle.range_flow.proofs.first_nodes.FirstNodes.of.Given as goal

abbrev pub invariant-loop-one : goal.invariant-loop-one
invariant-loop-one l =
    (l.count + total_of (drop l.one-index l.all) ≡ total_of l.all)
    × ((a : ℕ) → or_else (get nat_eq l.firsts a) (number_from l.count (drop l.one-index l.all) a) ≡ number_from 0 l.all a)
