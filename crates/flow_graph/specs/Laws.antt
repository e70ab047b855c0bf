-- What holds of the definitions alone.
use Rattle.std.specs.Prelude.{◌≡◌, ℕ, List, [], map, filter, slice_get, slice_index_or, Some}
use Rattle.elf_image.specs.declared.image.Segment.{Segment}
use Rattle.elf_image.specs.declared.range.Range.{Range}
use Rattle.elf_image.specs.Range.{is_inside}
use Rattle.graph_order.specs.Graph.{Digraph}
use Rattle.flow_graph.specs.declared.place.Place.{Place}
use Rattle.flow_graph.specs.Reach.{AreSuccessors}
use Rattle.flow_graph.specs.Place.{NamedPlace, HasNoPlace}
use Rattle.flow_graph.specs.Discovery.{IsDiscovered, number_in}

-- A range has at most one named place: the address and the cause are determined.
abbrev pub OnePlace : Type 0
OnePlace = (m : List Segment) (r : Range) (p q : Place) → NamedPlace m r p → NamedPlace m r q → p ≡ q

-- What is discovered of a range is determined: the places in their order, and the graph.
abbrev pub OneDiscovery : Type 0
OneDiscovery = (m : List Segment) (r : Range) (places others : List ℕ) (g h : Digraph) → IsDiscovered m r places g → IsDiscovered m r others h
    → (places ≡ others) × (g ≡ h)

-- a window or an instruction begins at the k-th place, and the list of node k has the numbers of its successors inside, in
-- order
pub record IsNode (m : List Segment) (r : Range) (places : List ℕ) (g : Digraph) (k a : ℕ) : Type 0 where
  pub all : List ℕ
  pub leads : AreSuccessors m r a all
  pub list : slice_index_or g.succ k [] ≡ map (number_in places) (filter (is_inside r) all)

-- Where no place is named, the first place is the entry, and each node is that of its place.
abbrev pub NodesAreTheirPlaces : Type 0
NodesAreTheirPlaces = (m : List Segment) (r : Range) (places : List ℕ) (g : Digraph) → IsDiscovered m r places g → HasNoPlace m r
    → (slice_get places 0 ≡ Some r.entry) × ((k a : ℕ) → slice_get places k ≡ Some a → IsNode m r places g k a)
