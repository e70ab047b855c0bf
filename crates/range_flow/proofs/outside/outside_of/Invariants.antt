use Rattle.std.proofs.Common.{◌≡◌, ℕ, ◌+◌, ◌≤◌, ◌||◌, nat_eq, length, drop}
use Rattle.indexmap.specs.IndexSet.{contains}
use Rattle.range_flow.specs.Nodes.{leads_outside, successors_in}
use Rattle.range_flow.proofs.outside.outside_of.Given as goal

abbrev pub invariant-loop-one : goal.invariant-loop-one
invariant-loop-one l =
    ((a : ℕ) → (contains nat_eq l.outside a || leads_outside l.r (drop l.one-index l.all) a) ≡ leads_outside l.r l.all a)
    × (length l.outside.keys + successors_in (drop l.one-index l.all) ≤ successors_in l.all)
