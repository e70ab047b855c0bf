-- Orders of a graph along its edges.
use Rattle.std.specs.Prelude.{◌≡◌, ℕ, ◌<◌, ◌↔◌, List, Contains, slice_get, Some}
use Rattle.graph_order.specs.Graph.{Digraph, HasEdge, Walk, IsReached}
use Rattle.graph_order.specs.declared.order.OrderFault.{OrderFault}
use Rattle.graph_order.specs.declared.order.OrderFault.TheVariants.{Cyclic, Memory}

-- a topological order: each reached node stands once, and each edge between them goes forward
pub record IsTopologicalOrder (g : Digraph) (order : List ℕ) : Type 0 where
  pub reached : (n : ℕ) → (Contains order n ↔ IsReached g n)
  pub once : (i j n : ℕ) → slice_get order i ≡ Some n → slice_get order j ≡ Some n → i ≡ j
  pub forward : (i j a b : ℕ) → slice_get order i ≡ Some a → slice_get order j ≡ Some b → HasEdge g a b → i < j

-- an edge of a cycle that the entry reaches
abbrev pub IsCyclicEdge : Digraph → ℕ → ℕ → Type 0
IsCyclicEdge g a b = IsReached g a × HasEdge g a b × Walk g b a

-- why no order is answered: an edge lies on a cycle that the entry reaches; memory may be refused at any time
abbrev pub HasNoOrder : Digraph → OrderFault → Type 0
HasNoOrder g (Cyclic a b) = IsCyclicEdge g a b
HasNoOrder g Memory = Unit

-- a graph with a reached cycle has no topological order
abbrev pub CyclesHaveNoOrder : Type 0
CyclesHaveNoOrder = (g : Digraph) (order : List ℕ) (a b : ℕ) → IsTopologicalOrder g order → IsCyclicEdge g a b → ⊥

-- a topological order begins with the entry
abbrev pub EntryStandsFirst : Type 0
EntryStandsFirst = (g : Digraph) (order : List ℕ) → IsTopologicalOrder g order → slice_get order 0 ≡ Some g.entry
