-- When the blocks of a flow are those of another one, joined.
use Rattle.std.specs.Prelude.{◌≡◌, ◌≢◌, ◌↔◌, ℕ, List, [], ◌∷◌, Some, All, AllPairs, Contains, map, slice_get, slice_index_or}
use Rattle.std.specs.List.{concat, flat_map}
use Rattle.std.specs.List.Sorted.{IsStrictlyIncreasing}
use Rattle.graph_order.specs.Graph.{Digraph, HasEdge, IsReached}
use Rattle.micro_ir.specs.declared.flow.End.TheVariants as end
use Rattle.micro_ir.specs.declared.flow.Block.{Block}
use Rattle.micro_ir.specs.declared.flow.Flow.{Flow}
use Rattle.micro_ir.specs.Checked.{nodes_of}
use Rattle.micro_ir.specs.Laws.{moved_end}
use Rattle.flow_stretches.specs.Ends.{only_target, straight}

-- the graph of a flow
abbrev pub graph_of : Flow → Digraph
graph_of f = record { entry = f.entry; succ = map (λ b. nodes_of b.end) f.blocks }

-- a block that does nothing and returns
abbrev pub empty_block : Block
empty_block = record { at = 0; stmts = []; end = end.Return }

-- the block of a number; an empty one where there is none
abbrev pub block_at : List Block → ℕ → Block
block_at blocks n = slice_index_or blocks n empty_block

-- ---- stretches

-- Block k is followed by block m: it leads only there, m isn't the entry, and no other block that is reached names m.
pub record IsFollowed (f : Flow) (k m : ℕ) : Type 0 where
  pub reached : IsReached (graph_of f) k
  pub only : only_target (block_at f.blocks k).end ≡ Some m
  pub inner : m ≢ f.entry
  pub alone : (j : ℕ) → IsReached (graph_of f) j → HasEdge (graph_of f) j m → j ≡ k

-- A node is the first of a stretch: it is reached, and follows no block.
pub record IsFirst (f : Flow) (n : ℕ) : Type 0 where
  pub reached : IsReached (graph_of f) n
  pub follows_none : (k : ℕ) → IsFollowed f k n → ⊥

-- the first and the last of some nodes
abbrev pub first_of : List ℕ → ℕ
first_of [] = 0
first_of (n ∷ ns) = n

abbrev pub last_from : ℕ → List ℕ → ℕ
last_from n [] = n
last_from n (m ∷ ns) = last_from m ns

abbrev pub last_of : List ℕ → ℕ
last_of ns = last_from (first_of ns) ns

-- each of some nodes is followed by the next one
abbrev pub Path : (ℕ → ℕ → Type 0) → ℕ → List ℕ → Type 0
Path R n [] = Unit {0}
Path R n (m ∷ ns) = R n m × Path R m ns

-- A stretch: nodes each followed by the next one, from one that follows none to one that is followed by none.
pub record IsStretch (f : Flow) (nodes : List ℕ) : Type 0 where
  pub first : ℕ
  pub others : List ℕ
  pub are : nodes ≡ first ∷ others
  pub begins : IsFirst f first
  pub path : Path (IsFollowed f) first others
  pub ends : (m : ℕ) → IsFollowed f (last_from first others) m → ⊥

-- ---- the joined flow

-- The block of a stretch: the address of its first block, the statements of its blocks one after another, and the end of
-- its last one, with nodes named anew.
abbrev pub join_of : List Block → (ℕ → ℕ) → List ℕ → Block
join_of blocks name nodes = record {
  at = (block_at blocks (first_of nodes)).at;
  stmts = flat_map (λ n. (block_at blocks n).stmts) nodes;
  end = moved_end name (straight (block_at blocks (last_of nodes)).end);
}

-- The stretches of a flow, in the order of their first nodes. Each node that is reached stands in one stretch, once, and the
-- name of a first node is the number of its stretch.
pub record AreStretches (f : Flow) (stretches : List (List ℕ)) (name : ℕ → ℕ) : Type 0 where
  pub each : All (IsStretch f) stretches
  pub named : (n : ℕ) → IsFirst f n → (others : List ℕ) × (slice_get stretches (name n) ≡ Some (n ∷ others))
  pub once : AllPairs (λ a b. a ≢ b) (concat stretches)
  pub reached : (n : ℕ) → (Contains (concat stretches) n ↔ IsReached (graph_of f) n)
  pub ordered : IsStrictlyIncreasing (map first_of stretches)

-- A flow has a block for each stretch of another one.
pub record IsJoined (f g : Flow) : Type 0 where
  pub stretches : List (List ℕ)
  pub name : ℕ → ℕ
  pub are : AreStretches f stretches name
  pub entry : g.entry ≡ name f.entry
  pub blocks : g.blocks ≡ map (join_of f.blocks name) stretches
