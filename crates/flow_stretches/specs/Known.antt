-- What the code knows of the blocks of a flow.
use Rattle.std.specs.Prelude.{◌≡◌, ◌≢◌, ◌↔◌, ◌<◌, ℕ, suc, nat_eq, Bool, true, false, List, [], ◌∷◌, ◌++◌, All, Option, Some, None, length, map, slice_index, slice_index_or, if◌then◌else◌}
use Rattle.graph_order.specs.Graph.{Digraph, HasEdge, IsReached, IsMarked}
use Rattle.std.specs.List.{flat_map}
use Rattle.micro_ir.specs.declared.flow.Block.{Block}
use Rattle.micro_ir.specs.declared.flow.Flow.{Flow}
use Rattle.flow_stretches.specs.declared.comers.Comers.{Comers}
use Rattle.flow_stretches.specs.declared.comers.Comers.TheVariants as comers
use Rattle.flow_stretches.specs.Joined.{graph_of, block_at, first_of, last_from, last_of, Path}

-- who comes to a node, once a block names it
abbrev pub with_comer : Comers → ℕ → Comers
with_comer comers.Nobody k = comers.One k
with_comer (comers.One j) k = if nat_eq j k then comers.One j else comers.Several
with_comer comers.Several k = comers.Several

-- the comers to a node among lists of them
abbrev pub comers_at : List Comers → ℕ → Comers
comers_at list n = slice_index_or list n comers.Nobody

-- these are the ones that come
abbrev pub AreComers : (ℕ → Type 0) → Comers → Type 0
AreComers Comes comers.Nobody = (a : ℕ) → Comes a → ⊥
AreComers Comes (comers.One k) = Comes k × ((a : ℕ) → Comes a → a ≡ k)
AreComers Comes comers.Several = (a : ℕ) × (b : ℕ) × (a ≢ b) × Comes a × Comes b

-- a reached node has an edge to another one
pub record ComesTo (g : Digraph) (n a : ℕ) : Type 0 where
  pub reached : IsReached g a
  pub edge : HasEdge g a n

-- which nodes of a flow are reached, and from where
pub record IsKnown (f : Flow) (reached : List Bool) (comers : List Comers) : Type 0 where
  pub marks : length reached ≡ length f.blocks
  pub exact : (n : ℕ) → (IsMarked reached n ↔ IsReached (graph_of f) n)
  pub count : length comers ≡ length f.blocks
  pub comes : (n : ℕ) → AreComers (ComesTo (graph_of f) n) (comers_at comers n)

-- the node after a node, in a list for each node of the next one
abbrev pub NextIn : List (Option ℕ) → ℕ → ℕ → Type 0
NextIn next k m = slice_index_or next k None ≡ Some m

-- ---- paths

-- Nodes from one on, each with the next one after it, to one that has none after it.
pub record IsPath (next : List (Option ℕ)) (first : ℕ) (nodes : List ℕ) : Type 0 where
  pub others : List ℕ
  pub are : nodes ≡ first ∷ others
  pub path : Path (NextIn next) first others
  pub ends : slice_index_or next (last_from first others) None ≡ None

-- No node is after two, and each that is after one is below the count.
pub record AreNext (next : List (Option ℕ)) : Type 0 where
  pub inside : (k m : ℕ) → NextIn next k m → m < length next
  pub apart : (a b m : ℕ) → NextIn next a m → NextIn next b m → a ≡ b

-- the places of marks, where so many come before them
abbrev pub marked_from : ℕ → List Bool → List ℕ
marked_from k [] = []
marked_from k (true ∷ marks) = k ∷ marked_from (suc k) marks
marked_from k (false ∷ marks) = marked_from (suc k) marks

-- a path from each marked node, in order
pub record ArePaths (next : List (Option ℕ)) (firsts : List Bool) (paths : List (List ℕ)) : Type 0 where
  pub heads : map first_of paths ≡ marked_from 0 firsts
  pub each : All (λ nodes. IsPath next (first_of nodes) nodes) paths

-- ---- blocks

-- two blocks one after the other
abbrev pub then_block : Block → Block → Block
then_block a b = record { at = a.at; stmts = a.stmts ++ b.stmts; end = b.end }

-- the blocks of nodes one after another
abbrev pub joined_blocks : List Block → List ℕ → Block
joined_blocks blocks nodes = record {
  at = (block_at blocks (first_of nodes)).at;
  stmts = flat_map (λ n. (block_at blocks n).stmts) nodes;
  end = (block_at blocks (last_of nodes)).end;
}

-- the name of a node among names; 0 where it has none
abbrev pub name_by : List ℕ → ℕ → ℕ
name_by names n = slice_index names n
