-- When a piece does what the machine does from its address, in one step or more.
use Rattle.std.specs.Prelude.{◌≡◌, ℕ, ◌+◌, ◌<◌, ◌≤◌, Bool, true, List, length, slice_get, Some}
use Rattle.elf_image.specs.declared.image.Segment.{Segment}
use Rattle.elf_image.specs.Image.{frozen_byte}
use Rattle.dream_words.specs.Memory.{Mem, byte_at}
use Rattle.x86_model.specs.Machine.{Onward, At, State, Ending}
use Rattle.machine.specs.Steps.{steps}
use Rattle.machine.specs.Run.{Scene, step_at}
use Rattle.run_parts.specs.Steps.{To}
use Rattle.run_parts.specs.World.{World}
use Rattle.micro_ir.specs.Run.{enter}
use Rattle.micro_ir.specs.World.{IsWorld}
use Rattle.lift_parts.specs.Stands.{Stands}
use Rattle.lift_parts.specs.Lifted.{through, Matches, Stays}
use Rattle.flow_pieces.specs.declared.piece.FlowPiece.{FlowPiece}

-- memory has the frozen bytes of the image
abbrev pub HasFrozen : List Segment → Mem → Type 0
HasFrozen m mem = (a b : ℕ) → frozen_byte m a ≡ Some b → byte_at mem a ≡ b

-- a world stands for a state of a run that hasn't strayed
pub record Follows (m : List Segment) (s : State) (w : World) : Type 0 where
  pub world : IsWorld w
  pub frozen_bytes : HasFrozen m s.mem
  pub stands : Stands s w

-- so many steps of the machine from an address
abbrev pub steps_from : Scene → ℕ → ℕ → State → Onward State Ending
steps_from sc n a s = steps State Ending (step_at sc) n a s

-- A piece does what the machine does from its address, in one step or more: an instruction is one, a window is several.
-- Before the last of them the run goes on, without calls. Entered at its first block from every world, no block is stuck,
-- and each leads to a node of the piece or a successor.
pub record IsCovered (sc : Scene) (p : FlowPiece) : Type 0 where
  pub begins : 0 < length p.blocks
  pub moves : State → ℕ
  pub some_move : (s : State) → 1 ≤ moves s
  pub between : (s : State) (w : World) (i : ℕ) → Follows sc.image s w → i < moves s
      → (b : ℕ) × (u : State) × (steps_from sc i p.at s ≡ At b u) × (u.calls ≡ s.calls)
  pub effect : (s : State) (w : World) → Follows sc.image s w
      → Matches (length p.blocks) p.successors (steps_from sc (moves s) p.at s) (through (length p.blocks) p.blocks (enter (slice_get p.blocks 0) w))
  -- the worlds in which a block is entered: the first block in every world
  pub ready : ℕ → World → Bool
  pub ready_first : (w : World) → ready 0 w ≡ true
  pub steady : (n : ℕ) (w : World) → n < length p.blocks → IsWorld w → ready n w ≡ true
      → Stays (length p.blocks + length p.successors) (enter (slice_get p.blocks n) w)
  -- a block that leads to an own one leads to a world in which that one is entered
  pub onward : (n k : ℕ) (w u : World) → n < length p.blocks → IsWorld w → ready n w ≡ true
      → enter (slice_get p.blocks n) w ≡ To k u → k < length p.blocks → ready k u ≡ true
