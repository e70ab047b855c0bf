-- Where a part is entered, and where it is left.
use Rattle.std.specs.Prelude.{ℕ, ◌≢◌, ◌⊎◌, ◌↔◌, List, [], Option, Bool, IsTrue, Contains, slice_index_or}
use Rattle.std.specs.List.Sorted.{IsStrictlyIncreasing}
use Rattle.graph_order.specs.Graph.{Digraph, HasEdge}
use Rattle.graph_order.specs.Owners.{StandsIn}

-- two different nodes are among some
abbrev pub HasTwo : List ℕ → Type 0
HasTwo nodes = (a : ℕ) × (b : ℕ) × (a ≢ b) × Contains nodes a × Contains nodes b

-- the members that aren't bare, and where there is a bare cycle those with two arrivals, ascending
pub record AreHeads (members : List ℕ) (part : ℕ) (bare : List (Option ℕ)) (arrivals : List (List ℕ)) (cycle : Bool) (heads : List ℕ) : Type 0 where
  pub ascend : IsStrictlyIncreasing heads
  pub has : (n : ℕ) → (Contains heads n ↔ (Contains members n × ((StandsIn bare n part → ⊥) ⊎ (IsTrue cycle × HasTwo (slice_index_or arrivals n [])))))

-- the targets of the members' edges that don't stand in the part, ascending
pub record AreExits (g : Digraph) (members : List ℕ) (part : ℕ) (owners : List (Option ℕ)) (exits : List ℕ) : Type 0 where
  pub ascend : IsStrictlyIncreasing exits
  pub has : (n : ℕ) → (Contains exits n ↔ ((a : ℕ) × Contains members a × HasEdge g a n × (StandsIn owners n part → ⊥)))

-- those of some nodes that don't stand in a part have been added
abbrev pub AddsOutside : List ℕ → ℕ → List (Option ℕ) → List ℕ → List ℕ → Type 0
AddsOutside nodes part owners old new = (n : ℕ) → (Contains new n ↔ (Contains old n ⊎ (Contains nodes n × (StandsIn owners n part → ⊥))))
