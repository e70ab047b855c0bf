-- Which addresses of a range its code reaches.
use Rattle.std.specs.Prelude.{◌≡◌, ℕ, true, List, Contains}
use Rattle.elf_image.specs.declared.image.Segment.{Segment}
use Rattle.elf_image.specs.declared.range.Range.{Range}
use Rattle.elf_image.specs.Range.{is_inside}
use Rattle.x86_inst.specs.declared.Inst.{Inst}
use Rattle.x86_model.specs.Successors.{successors_of}
use Rattle.machine.specs.Code.{BeginsAt}
use Rattle.jump_tables.specs.declared.table.TableWindow.{TableWindow}
use Rattle.jump_tables.specs.Window.{next_of, IsWindow, HasNoWindow, window_successors}

-- The successors of an address, inside the range or not, in order: those of the window that stands there, or else of the
-- instruction that begins there.
pub data AreSuccessors (m : List Segment) (r : Range) (a : ℕ) (list : List ℕ) : Type 0 where
  of_window : (w : TableWindow) → IsWindow m r a w → list ≡ window_successors m w → AreSuccessors m r a list
  of_instruction : (i : Inst) (n : ℕ) → BeginsAt m r a i n → HasNoWindow m r a → list ≡ successors_of i a (next_of a n) → AreSuccessors m r a list

-- The least set of inside addresses that holds the entry and is closed under successors. What stands inside a window is
-- not reached through it.
pub data Reaches (m : List Segment) (r : Range) : ℕ → Type 0 where
  entry : is_inside r r.entry ≡ true → Reaches m r r.entry
  along : (a b : ℕ) (list : List ℕ) → Reaches m r a → AreSuccessors m r a list → Contains list b → is_inside r b ≡ true → Reaches m r b
