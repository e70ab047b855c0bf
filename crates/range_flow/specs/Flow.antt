-- When a flow is that of a range.
use Rattle.std.specs.Prelude.{◌≡◌, ℕ, true, false, nat_eq, List, ◌++◌, slice_get, Some, All, Contains}
use Rattle.std.specs.List.{IsDistinct}
use Rattle.elf_image.specs.declared.image.Segment.{Segment}
use Rattle.elf_image.specs.declared.range.Range.{Range}
use Rattle.elf_image.specs.Range.{is_inside}
use Rattle.micro_ir.specs.declared.flow.Flow.{Flow}
use Rattle.flow_graph.specs.Reach.{AreSuccessors}
use Rattle.flow_pieces.specs.declared.piece.FlowPiece.{FlowPiece}
use Rattle.range_flow.specs.Pieces.{IsPieceOf, IsLeaveTo, addresses_of, flow_blocks}

-- Places cover a range: the entry is the first of them, they are inside, and so are they closed under successors within
-- the range.
pub record AreCovering (m : List Segment) (r : Range) (places : List ℕ) : Type 0 where
  pub entry : slice_get places 0 ≡ Some r.entry
  pub inside : (a : ℕ) → Contains places a → is_inside r a ≡ true
  pub closed : (a b : ℕ) (list : List ℕ) → Contains places a → AreSuccessors m r a list → Contains list b → is_inside r b ≡ true → Contains places b

-- an address outside the range that a piece leads to
abbrev pub IsOutsideOf : Range → List FlowPiece → ℕ → Type 0
IsOutsideOf r pieces a = (is_inside r a ≡ false) × (p : FlowPiece) × Contains pieces p × Contains p.successors a

-- The flow of a range: the pieces of the places in their order, and then those of the addresses outside that these lead
-- to, each once. It is entered at its first block.
pub record IsFlowOf (m : List Segment) (r : Range) (places : List ℕ) (f : Flow) : Type 0 where
  pub inner : List FlowPiece
  pub outer : List FlowPiece
  pub at_places : addresses_of inner ≡ places
  pub instructions : All (IsPieceOf m r) inner
  pub leaves : All IsLeaveTo outer
  pub outside : (a : ℕ) → Contains (addresses_of outer) a → IsOutsideOf r inner a
  pub complete : (a : ℕ) → IsOutsideOf r inner a → Contains (addresses_of outer) a
  pub once : IsDistinct nat_eq (addresses_of outer)
  pub blocks : f.blocks ≡ flow_blocks (inner ++ outer)
  pub entry : f.entry ≡ 0
