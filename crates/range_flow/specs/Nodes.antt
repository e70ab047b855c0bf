-- The nodes of a flow, as they are found one piece after another.
use Rattle.std.specs.Prelude.{ℕ, Bool, false, not, ◌&&◌, ◌||◌, ◌+◌, ◌-◌, unwrap_or, nat_eq, nat_lt, List, [], ◌∷◌, ◌++◌, length, map, Option, Some, None, slice_get, if◌then◌else◌}
use Rattle.std.specs.HashMap.{get}
use Rattle.std.specs.List.{list_any}
use Rattle.elf_image.specs.declared.range.Range.{Range}
use Rattle.elf_image.specs.Range.{is_inside}
use Rattle.micro_ir.specs.declared.flow.Block.{Block}
use Rattle.flow_pieces.specs.declared.piece.FlowPiece.{FlowPiece}
use Rattle.range_flow.specs.declared.lifted.Lifted.{Lifted}
use Rattle.range_flow.specs.declared.first_nodes.FirstNodes.{FirstNodes}
use Rattle.range_flow.specs.declared.nodes.Nodes.{Nodes}
use Rattle.range_flow.specs.Pieces.{leave_block, moved_block}

-- the piece that was made
abbrev pub piece_of : Lifted → FlowPiece
piece_of l = record { at = l.at; blocks = l.blocks.items; successors = l.successors.items }

abbrev pub pieces_of : List Lifted → List FlowPiece
pieces_of = map piece_of

-- the piece of an address outside
abbrev pub leave_piece : ℕ → FlowPiece
leave_piece a = record { at = a; blocks = leave_block a ∷ []; successors = [] }

-- how many blocks some have
abbrev pub total_of : List Lifted → ℕ
total_of [] = 0
total_of (l ∷ ls) = length l.blocks.items + total_of ls

-- how many successors some have
abbrev pub successors_in : List Lifted → ℕ
successors_in [] = 0
successors_in (l ∷ ls) = length l.successors.items + successors_in ls

-- the address is outside, and among the successors
abbrev pub leads_outside : Range → List Lifted → ℕ → Bool
leads_outside r [] a = false
leads_outside r (l ∷ ls) a = not (is_inside r a) && list_any (nat_eq a) l.successors.items || leads_outside r ls a

-- the first of two that there is
abbrev pub or_else : Option ℕ → Option ℕ → Option ℕ
or_else (Some n) other = Some n
or_else None other = other

-- the node of the first block of the first one at an address, where so many blocks come before them
abbrev pub number_from : ℕ → List Lifted → ℕ → Option ℕ
number_from n [] a = None
number_from n (l ∷ ls) a = if nat_eq a l.at then Some n else number_from (n + length l.blocks.items) ls a

-- the node of a successor
abbrev pub successor_by : (ℕ → ℕ) → Option ℕ → ℕ
successor_by first None = 0
successor_by first (Some a) = first a

-- The node of the flow for a node n, by the first node of each address: for a number below the count an own block, else the
-- first block of a successor.
abbrev pub node_by : (ℕ → ℕ) → ℕ → ℕ → List ℕ → ℕ → ℕ
node_by first start count successors n = if nat_lt n count then start + n else successor_by first (slice_get successors (n - count))

-- the blocks in order, from the node `start` on
abbrev pub joined_from : (ℕ → ℕ) → ℕ → List Lifted → List Block
joined_from first start [] = []
joined_from first start (l ∷ ls) =
    map (moved_block (node_by first start (length l.blocks.items) l.successors.items)) l.blocks.items ++ joined_from first (start + length l.blocks.items) ls

-- ---- what the code keeps

-- the first node of an address, by what is kept
abbrev pub first_by : FirstNodes → ℕ → ℕ
first_by n a = unwrap_or (get nat_eq n.firsts a) n.count

-- the node of the flow for a node
abbrev pub node_in : Nodes → ℕ → ℕ
node_in s = node_by (first_by s.firsts.now) s.start s.count s.successors.now
