-- Why flags are live: somebody reads them.
use Rattle.std.specs.Prelude.{◌≡◌, ℕ, ◌<◌, List, Some, length, map, slice_get, Contains, IsTrue}
use Rattle.dream_words.specs.declared.machine.Name.TheVariants.{Flag}
use Rattle.micro_ir.specs.declared.flow.Block.{Block}
use Rattle.micro_ir.specs.Checked.{nodes_of}
use Rattle.flow_passes.specs.Uses.{NameSet}
use Rattle.flow_passes.specs.Laws.{Within}
use Rattle.flag_liveness.specs.Rows.{is_in_rows}
use Rattle.flag_liveness.specs.Before.{live_at}
use Rattle.flag_liveness.specs.Clean.{cleaned, cleaned_block}
use Rattle.flag_liveness.specs.Read.{IsReadFrom}

-- each node that an end names is one of the blocks
abbrev pub NodesInside : List Block → Type 0
NodesInside blocks = (n a : ℕ) (b : Block) → slice_get blocks n ≡ Some b → Contains (nodes_of b.end) a → a < length blocks

-- Each flag that is live at the beginning of a block is read from there on, when what nobody sees is dropped by sets of live
-- names that have at least these.
pub record HaveReasons (blocks : List Block) (live : ℕ → NameSet) : Type 0 where
  pub of : (more : ℕ → NameSet) → ((k : ℕ) → Within (live k) (more k)) → (k i : ℕ) (b : Block) → slice_get blocks k ≡ Some b → IsTrue (is_in_rows (Flag i)) → IsTrue (live k (Flag i))
      → IsReadFrom (map (cleaned_block more) blocks) (Flag i) (cleaned b.stmts (live_at b.end more)) b.end
