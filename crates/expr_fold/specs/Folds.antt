-- When a block is another one with words in place.
use Rattle.std.specs.Prelude.{◌≡◌, ℕ, suc, List, [], ◌∷◌, Some, slice_get, IsTrue}
use Rattle.run_parts.specs.World.{World}
use Rattle.micro_ir.specs.declared.flow.Block.{Block}
use Rattle.micro_ir.specs.Rule.{is_flow_block}
use Rattle.micro_ir.specs.Run.{block_leads}
use Rattle.micro_ir.specs.World.{IsWorld}
use Rattle.flow_passes.specs.Uses.{NameSet}
use Rattle.flow_passes.specs.Alike.{Alike, ArrivesAlike}
use Rattle.flow_passes.specs.Keeps.{KeepsBlock}
use Rattle.flow_passes.specs.Laws.{Within}
use Rattle.flag_liveness.specs.Before.{live_at, live_in}
use Rattle.expr_fold.specs.Follows.{AllSeen}

-- Somebody sees each statement of a block, and what is live at its beginning is in the set of its number.
pub record LivesAt (live : ℕ → NameSet) (k : ℕ) (b : Block) : Type 0 where
  pub seen : AllSeen b.stmts (live_at b.end live)
  pub start : Within (live_in b live) (live k)

-- so it is of each block of a list
abbrev pub LivesIn : (ℕ → NameSet) → List Block → Type 0
LivesIn live bs = (k : ℕ) (b : Block) → slice_get bs k ≡ Some b → LivesAt live k b

-- The second block keeps the first and its rule, and leads where it does from worlds that are alike in what is seen there.
pub record FoldsBlock (seen : ℕ → NameSet) (k : ℕ) (b c : Block) : Type 0 where
  pub keeps : KeepsBlock b c
  pub rule : IsTrue (is_flow_block c)
  pub leads : (w u : World) → IsWorld w → IsWorld u → Alike (seen k) w u → ArrivesAlike seen (block_leads b w) (block_leads c u)

-- each of the blocks from a number on
abbrev pub FoldsBlocks : (ℕ → NameSet) → ℕ → List Block → List Block → Type 0
FoldsBlocks seen k [] [] = Unit {0}
FoldsBlocks seen k (b ∷ bs) (c ∷ cs) = FoldsBlock seen k b c × FoldsBlocks seen (suc k) bs cs
FoldsBlocks seen k bs cs = ⊥
