-- The nodes that are reached, and the blocks at them.
use Rattle.std.proofs.Common.{◌≡◌, inl, inr, ℕ, ◌<◌, [], length, Some, refl, sym, subst}
use Rattle.std.specs.Prelude.{slice_get, slice_index_or, Contains}
use Rattle.std.proofs.Math.ListN.{get_or-map}
use Rattle.std.proofs.lemmas.Bool.{cases_lt}
use Rattle.std.proofs.lemmas.List.{get_or_past}
use Rattle.std.proofs.lemmas.Option.{slice_get-get_or}
use Rattle.graph_order.specs.Graph.{HasEdge, IsReached, stay, step}
use Rattle.micro_ir.specs.declared.flow.Block.{Block}
use Rattle.micro_ir.specs.declared.flow.Flow.{Flow}
use Rattle.micro_ir.specs.Checked.{nodes_of, IsChecked}
use Rattle.flow_stretches.specs.Joined.{graph_of, empty_block, block_at, IsFollowed, IsFirst}
use Rattle.flow_stretches.proofs.Members.{none_in}
use Rattle.flow_stretches.proofs.Straight.{only_is_named}

-- the edges of a node are to the nodes that its block names
pub edges_are : (f : Flow) (n : ℕ) → slice_index_or (graph_of f).succ n [] ≡ nodes_of (block_at f.blocks n).end
edges_are f n = get_or-map (λ (b : Block). nodes_of b.end) f.blocks n empty_block

pub edge_named : (f : Flow) (n m : ℕ) → HasEdge (graph_of f) n m → Contains (nodes_of (block_at f.blocks n).end) m
edge_named f n m h = subst (λ ns. Contains ns m) (edges_are f n) h

pub named_edge : (f : Flow) (n m : ℕ) → Contains (nodes_of (block_at f.blocks n).end) m → HasEdge (graph_of f) n m
named_edge f n m h = subst (λ ns. Contains ns m) (sym (edges_are f n)) h

-- a block that names a node is one of the flow's
names_inside : (f : Flow) (n m : ℕ) → Contains (nodes_of (block_at f.blocks n).end) m → n < length f.blocks
names_inside f n m h = elim (cases_lt n (length f.blocks)) [
  | inl l ↦ l
  | inr g ↦ absurd (none_in m (subst (λ (b : Block). Contains (nodes_of b.end) m) (get_or_past f.blocks n empty_block g) h))
]

pub block_found : (f : Flow) (n : ℕ) → n < length f.blocks → slice_get f.blocks n ≡ Some (block_at f.blocks n)
block_found f n h = slice_get-get_or f.blocks n empty_block h

-- a node that is named is a block of the flow
pub named_inside : (f : Flow) (n m : ℕ) → IsChecked f → Contains (nodes_of (block_at f.blocks n).end) m → m < length f.blocks
named_inside f n m c h = c.nodes_inside n m (block_at f.blocks n) (block_found f n (names_inside f n m h)) h

-- and so is one that is reached
pub reached_inside : (f : Flow) (n : ℕ) → IsChecked f → IsReached (graph_of f) n → n < length f.blocks
reached_inside f n c (stay e) = subst (λ m. m < length f.blocks) e c.entry_inside
reached_inside f n c (step b w h) = named_inside f b n c (edge_named f b n h)

-- the entry is a first node
pub entry_first : (f : Flow) → IsFirst f f.entry
entry_first f = record { reached = stay refl; follows_none = λ k h. h.inner refl }

-- a node that follows one is named by that
pub follows_edge : (f : Flow) (k m : ℕ) → IsFollowed f k m → HasEdge (graph_of f) k m
follows_edge f k m h = named_edge f k m (only_is_named (block_at f.blocks k).end m h.only)

pub follows_reached : (f : Flow) (k m : ℕ) → IsFollowed f k m → IsReached (graph_of f) m
follows_reached f k m h = step k h.reached (follows_edge f k m h)

-- what a reached node names that no block follows is a first node
pub target_first : (f : Flow) (n m : ℕ) → IsReached (graph_of f) n → ((a : ℕ) → IsFollowed f n a → ⊥) → HasEdge (graph_of f) n m → IsFirst f m
target_first f n m r none h = record {
  reached = step n r h;
  follows_none = λ k g. none m (subst (λ j. IsFollowed f j m) (sym (g.alone n r h)) g);
}
