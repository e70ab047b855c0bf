-- When the flow of some pieces keeps up with the machine: each piece does what one or more steps from its address do.
use Rattle.std.specs.Prelude.{◌≡◌, ℕ, List, slice_get, Some, All, Contains}
use Rattle.machine.specs.Run.{Scene}
use Rattle.flow_pieces.specs.declared.piece.FlowPiece.{FlowPiece}
use Rattle.flow_pieces.specs.Covered.{IsCovered}
use Rattle.range_flow.specs.Pieces.{addresses_of}

-- The pieces of a range: each is covered, each successor has one, and the first is the entry's.
pub record IsPlan (sc : Scene) (pieces : List FlowPiece) : Type 0 where
  pub covered : All (IsCovered sc) pieces
  pub closed : (p : FlowPiece) (a : ℕ) → Contains pieces p → Contains p.successors a → Contains (addresses_of pieces) a
  pub entry : slice_get (addresses_of pieces) 0 ≡ Some sc.range.entry
