-- Directed graphs whose nodes are the numbers below a count, and walks along their edges.
use Rattle.std.specs.Prelude.{◌≡◌, ℕ, ◌^◌, ◌<◌, nat_le, List, [], ◌∷◌, Option, length, find, Contains, slice_index_or, Bool, true, false}
use Rattle.std.specs.List.{concat}

-- the entry, and for each node in turn its successors
pub record Digraph : Type 0 where
  pub entry : ℕ
  pub succ : List (List ℕ)

-- an edge leads from a to b
abbrev pub HasEdge : Digraph → ℕ → ℕ → Type 0
HasEdge g a b = Contains (slice_index_or g.succ a []) b

-- the nodes that a graph names, in reading order
abbrev pub names_of : ℕ → List (List ℕ) → List ℕ
names_of entry succ = entry ∷ concat succ

-- the first named node that isn't below the count
abbrev pub first_outside : ℕ → List (List ℕ) → Option ℕ
first_outside entry succ = find (λ n. nat_le (length succ) n) (names_of entry succ)

-- each named node is one of the graph's, and they are fewer than 2^30
pub record IsGraph (g : Digraph) : Type 0 where
  pub entry_inside : g.entry < length g.succ
  pub edges_inside : (a b : ℕ) → HasEdge g a b → b < length g.succ
  pub few_nodes : length g.succ < 2 ^ 30

-- a walk along edges, of any length, from a to a node
pub data Walk (g : Digraph) (a : ℕ) : ℕ → Type 0 where
  stay : {n : ℕ} → a ≡ n → Walk g a n
  step : {n : ℕ} (b : ℕ) → Walk g a b → HasEdge g b n → Walk g a n

-- a walk along edges, all of whose nodes have a property
pub data WalkThrough (g : Digraph) (P : ℕ → Type 0) (a : ℕ) : ℕ → Type 0 where
  stay_at : {n : ℕ} → a ≡ n → P n → WalkThrough g P a n
  step_to : {n : ℕ} (b : ℕ) → WalkThrough g P a b → HasEdge g b n → P n → WalkThrough g P a n

-- the entry reaches a node
abbrev pub IsReached : Digraph → ℕ → Type 0
IsReached g n = Walk g g.entry n

-- a list of marks has true at a place
abbrev pub IsMarked : List Bool → ℕ → Type 0
IsMarked marks n = slice_index_or marks n false ≡ true
