-- The pieces of a range's flow, and the flow's blocks, which are those of its pieces.
use Rattle.std.specs.Prelude.{◌≡◌, ℕ, ◌+◌, ◌-◌, ◌%◌, ◌^◌, ◌<◌, nat_eq, nat_lt, if◌then◌else◌, List, [], ◌∷◌, ◌++◌, length, map, slice_get, Option, Some, None}
use Rattle.elf_image.specs.declared.image.Segment.{Segment}
use Rattle.elf_image.specs.declared.range.Range.{Range}
use Rattle.x86_inst.specs.declared.Inst.{Inst}
use Rattle.x86_model.specs.Successors.{successors_of}
use Rattle.machine.specs.Code.{BeginsAt}
use Rattle.c_words.specs.Built.{num}
use Rattle.micro_ir.specs.declared.flow.Block.{Block}
use Rattle.micro_ir.specs.declared.flow.End.TheVariants as end
use Rattle.micro_ir.specs.Laws.{moved_end}
use Rattle.lift_parts.specs.Lifted.{AreBlocksOf}
use Rattle.jump_tables.specs.declared.table.TableWindow.{TableWindow}
use Rattle.jump_tables.specs.Window.{IsWindow, HasNoWindow, window_successors}
use Rattle.lift_window.specs.Window.{AreWindowBlocks}
use Rattle.flow_pieces.specs.declared.piece.FlowPiece.{FlowPiece}

-- ---- a piece

-- The piece of an address at which an instruction begins, and no window: its blocks and its successors are the instruction's.
pub record IsInstructionPiece (m : List Segment) (r : Range) (p : FlowPiece) : Type 0 where
  pub inst : Inst
  pub size : ℕ
  pub begins : BeginsAt m r p.at inst size
  pub no_window : HasNoWindow m r p.at
  pub successors : p.successors ≡ successors_of inst p.at ((p.at + size) % 2 ^ 32)
  pub blocks : AreBlocksOf inst p.at ((p.at + size) % 2 ^ 32) p.blocks

-- The piece of an address at which a window stands: its blocks and its successors are the window's.
pub record IsWindowPiece (m : List Segment) (r : Range) (p : FlowPiece) : Type 0 where
  pub window : TableWindow
  pub stands : IsWindow m r p.at window
  pub successors : p.successors ≡ window_successors m window
  pub blocks : AreWindowBlocks m r p.at window p.blocks

-- the piece of an address
pub data IsPieceOf (m : List Segment) (r : Range) (p : FlowPiece) : Type 0 where
  of_instruction : IsInstructionPiece m r p → IsPieceOf m r p
  of_window : IsWindowPiece m r p → IsPieceOf m r p

-- the block that leaves for an address
abbrev pub leave_block : ℕ → Block
leave_block a = record { at = a; stmts = []; end = end.Leave (num a) }

-- The piece of an address outside the range, which is a word: one block, which leaves for it.
pub record IsLeaveTo (p : FlowPiece) : Type 0 where
  pub word : p.at < 2 ^ 32
  pub blocks : p.blocks ≡ leave_block p.at ∷ []
  pub successors : p.successors ≡ []

-- the addresses of pieces
abbrev pub addresses_of : List FlowPiece → List ℕ
addresses_of pieces = map (λ p. p.at) pieces

-- ---- the flow of pieces

-- The node at which the first piece of an address begins: so many blocks have the pieces before it.
abbrev pub first_node : List FlowPiece → ℕ → ℕ
first_node [] a = 0
first_node (p ∷ pieces) a = if nat_eq p.at a then 0 else length p.blocks + first_node pieces a

abbrev pub node_of : List FlowPiece → Option ℕ → ℕ
node_of pieces None = 0
node_of pieces (Some a) = first_node pieces a

-- The node of the flow for a node n of a piece's own blocks, which begin at the node `start`: for a number below their
-- count that block, else the first block of the successor of that place.
abbrev pub flow_node : List FlowPiece → ℕ → FlowPiece → ℕ → ℕ
flow_node pieces start p n = if nat_lt n (length p.blocks) then start + n else node_of pieces (slice_get p.successors (n - length p.blocks))

-- a block whose nodes are named anew
abbrev pub moved_block : (ℕ → ℕ) → Block → Block
moved_block f b = record { at = b.at; stmts = b.stmts; end = moved_end f b.end }

-- the blocks of some of the pieces, one piece after another from the node `start` on
abbrev pub blocks_from : List FlowPiece → ℕ → List FlowPiece → List Block
blocks_from pieces start [] = []
blocks_from pieces start (p ∷ rest) = map (moved_block (flow_node pieces start p)) p.blocks ++ blocks_from pieces (start + length p.blocks) rest

-- the blocks of all pieces
abbrev pub flow_blocks : List FlowPiece → List Block
flow_blocks pieces = blocks_from pieces 0 pieces
