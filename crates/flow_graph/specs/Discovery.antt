-- The list of reached addresses and the graph of what follows what.
use Rattle.std.specs.Prelude.{◌≡◌, ◌↔◌, ℕ, nat_eq, List, [], ◌∷◌, ◌++◌, Contains, fold, filter, map, if◌then◌else◌}
use Rattle.std.specs.List.{list_any, position_or_len, concat, AllZip}
use Rattle.elf_image.specs.declared.image.Segment.{Segment}
use Rattle.elf_image.specs.declared.range.Range.{Range}
use Rattle.elf_image.specs.Range.{is_inside, bytes_to_end}
use Rattle.x86_decode.specs.Decodes.{NoneBegins}
use Rattle.graph_order.specs.Graph.{Digraph}
use Rattle.flow_graph.specs.Reach.{AreSuccessors, Reaches}

-- a list with an address, which goes last unless it is there
abbrev pub with_new : List ℕ → ℕ → List ℕ
with_new places a = if list_any (nat_eq a) places then places else places ++ a ∷ []

-- the addresses of a list in the order in which they first come
abbrev pub firsts : List ℕ → List ℕ
firsts = fold with_new []

-- The successors of an address that are inside, in order: those of the window or the instruction that begins there,
-- and none where none begins.
pub data HasSuccessors (m : List Segment) (r : Range) (a : ℕ) (list : List ℕ) : Type 0 where
  begins : (all : List ℕ) → AreSuccessors m r a all → list ≡ filter (is_inside r) all → HasSuccessors m r a list
  none : NoneBegins (bytes_to_end m r a) → list ≡ [] → HasSuccessors m r a list

-- the number of a place in a list
abbrev pub number_in : List ℕ → ℕ → ℕ
number_in places a = position_or_len (nat_eq a) places

-- The places are what is reached. They begin with the entry, then come, for each place in turn, its successors that
-- aren't there yet, in order. Node k of the graph is the k-th place, the entry is node 0, and the list of a node has
-- its successors by their numbers.
pub record IsDiscovered (m : List Segment) (r : Range) (places : List ℕ) (g : Digraph) : Type 0 where
  pub lists : List (List ℕ)
  pub listed : AllZip (HasSuccessors m r) places lists
  pub order : firsts (r.entry ∷ concat lists) ≡ places
  pub reached : (a : ℕ) → (Contains places a ↔ Reaches m r a)
  pub graph : g ≡ record { entry = 0; succ = map (map (number_in places)) lists }
