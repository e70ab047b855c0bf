-- Worlds that are alike where somebody looks, and what is done alike from them.
use Rattle.std.specs.Prelude.{◌≡◌, ℕ, List, length, Some, slice_get, IsTrue}
use Rattle.dream_words.specs.declared.machine.Name.{Name}
use Rattle.run_parts.specs.Steps.{Next, Halt, Jam, To, End, Nowhere}
use Rattle.run_parts.specs.World.{World}
use Rattle.run_parts.specs.Effects.{Doing}
use Rattle.micro_ir.specs.declared.flow.Block.{Block}
use Rattle.micro_ir.specs.Run.{Arrive, block_leads}
use Rattle.micro_ir.specs.World.{IsWorld}
use Rattle.flow_passes.specs.Uses.{NameSet}

-- Two worlds differ at most in names that aren't seen.
pub record Alike (seen : NameSet) (w u : World) : Type 0 where
  pub names : (n : Name) → IsTrue (seen n) → u.names n ≡ w.names n
  pub mem : u.mem ≡ w.mem
  pub pages : u.pages ≡ w.pages
  pub left : u.left ≡ w.left
  pub calls : u.calls ≡ w.calls

-- What is done second is alike to what is done first, where that isn't stuck.
abbrev pub DoesAlike : NameSet → Doing → Doing → Type 0
DoesAlike seen Jam d = Unit {0}
DoesAlike seen (Halt o) d = d ≡ Halt o
DoesAlike seen (Next w) d = (u : World) × (d ≡ Next u) × Alike seen w u

-- The second leads where the first does, where that is anywhere, to worlds that are alike in what is seen there.
abbrev pub ArrivesAlike : (ℕ → NameSet) → Arrive → Arrive → Type 0
ArrivesAlike seen Nowhere a = Unit {0}
ArrivesAlike seen (End o) a = a ≡ End o
ArrivesAlike seen (To n w) a = (u : World) × (a ≡ To n u) × Alike (seen n) w u

-- Blocks go alike: from worlds that are alike in what is seen at a block, the second block of that number leads where the
-- first one does.
pub record GoAlike (seen : ℕ → NameSet) (old new : List Block) : Type 0 where
  pub count : length new ≡ length old
  pub blocks : (n : ℕ) (b c : Block) → slice_get old n ≡ Some b → slice_get new n ≡ Some c → (w u : World) → IsWorld w → IsWorld u → Alike (seen n) w u
      → ArrivesAlike seen (block_leads b w) (block_leads c u)
