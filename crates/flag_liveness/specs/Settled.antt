-- Rows that are closed.
use Rattle.std.specs.Prelude.{◌≡◌, ◌≢◌, ◌||◌, ℕ, List, Some, slice_get, IsTrue}
use Rattle.std.specs.List.{sum_by}
use Rattle.dream_words.specs.declared.machine.Name.{Name}
use Rattle.micro_ir.specs.declared.flow.Block.{Block}
use Rattle.flag_liveness.specs.declared.live.Live.{Live}
use Rattle.flag_liveness.specs.Before.{live_in}
use Rattle.flag_liveness.specs.Rows.{is_in_rows, unset}
use Rattle.flag_liveness.specs.Lives.{live_of}

-- how many registers and flags aren't live, in all rows
abbrev pub unset_in : Live → ℕ
unset_in l = sum_by unset l.rows.items

-- the registers and flags that are live at the beginning of a block are in its row
abbrev pub IsClosedAt : Block → Live → ℕ → Type 0
IsClosedAt b l k = (n : Name) → IsTrue (is_in_rows n) → IsTrue (live_in b (live_of l) n) → IsTrue (live_of l k n)

abbrev pub AreClosed : List Block → Live → Type 0
AreClosed blocks l = (k : ℕ) (b : Block) → slice_get blocks k ≡ Some b → IsClosedAt b l k

-- The row of a block has grown by what is live at the beginning of the block, and no other row has changed.
pub record Grows (b : Block) (k : ℕ) (old new : Live) : Type 0 where
  pub row : (n : Name) → IsTrue (is_in_rows n) → live_of new k n ≡ (live_of old k n || live_in b (live_of old) n)
  pub others : (j : ℕ) → j ≢ k → slice_get new.rows.items j ≡ slice_get old.rows.items j
