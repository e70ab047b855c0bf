-- How many stores and asks a range has.
use Rattle.std.specs.Prelude.{◌≡◌, ◌↔◌, ℕ, ◌+◌, false, nat_eq, List, length, Contains}
use Rattle.std.specs.List.{AllZip, IsDistinct, count_by}
use Rattle.elf_image.specs.declared.image.Segment.{Segment}
use Rattle.elf_image.specs.declared.range.Range.{Range}
use Rattle.elf_image.specs.Range.{is_inside}
use Rattle.x86_inst.specs.declared.Inst.{Inst}
use Rattle.x86_model.specs.Successors.{stores as is_store, asks as is_ask}
use Rattle.machine.specs.Code.{BeginsAt}
use Rattle.flow_graph.specs.Reach.{AreSuccessors}

-- the instruction begins at an address
pub record StandsAt (m : List Segment) (r : Range) (a : ℕ) (x : Inst) : Type 0 where
  pub size : ℕ
  pub begins : BeginsAt m r a x size

-- an address outside the range that what stands at a place leads to
pub record IsNextOutside (m : List Segment) (r : Range) (places : List ℕ) (a : ℕ) : Type 0 where
  pub away : is_inside r a ≡ false
  pub place : ℕ
  pub listed : Contains places place
  pub list : List ℕ
  pub leads : AreSuccessors m r place list
  pub has : Contains list a

-- The places of a range have so many stores and asks. Its stores are the instructions there that store; its asks are
-- those that ask, and the different addresses outside that the places lead to. (What stands inside a window stores and asks nothing.)
pub record HasCounts (m : List Segment) (r : Range) (places : List ℕ) (stores asks : ℕ) : Type 0 where
  pub instructions : List Inst
  pub stand : AllZip (StandsAt m r) places instructions
  pub outside : List ℕ
  pub once : IsDistinct nat_eq outside
  pub exact : (a : ℕ) → (Contains outside a ↔ IsNextOutside m r places a)
  pub stores_are : stores ≡ count_by is_store instructions
  pub asks_are : asks ≡ count_by is_ask instructions + length outside
