-- What holds of the trees of a flow.
use Rattle.std.specs.Prelude.{◌≡◌, ℕ, suc, ◌+◌, List, [], ◌∷◌}
use Rattle.micro_ir.specs.declared.flow.End.{End as BlockEnd}
use Rattle.micro_ir.specs.declared.flow.End.TheVariants as end
use Rattle.micro_ir.specs.declared.flow.Block.{Block}
use Rattle.micro_ir.specs.declared.flow.Flow.{Flow}
use Rattle.micro_ir.specs.Counts.{stores_of, calls_of}
use Rattle.guarded.specs.declared.tree.Tree.{Tree}
use Rattle.guarded.specs.Counts.{tree_count, each_loop, each_test, each_ext, each_store, selectors_of}
use Rattle.guarded.specs.Formed.{IsWellFormed}
use Rattle.regions.specs.Follows.{Follows}

-- how many blocks end in a Switch
abbrev pub switches_of_end : BlockEnd → ℕ
switches_of_end (end.Go a) = 0
switches_of_end (end.Branch t a b) = 0
switches_of_end (end.Switch e cases) = 1
switches_of_end end.Return = 0
switches_of_end (end.Leave e) = 0

abbrev pub switches_of : List Block → ℕ
switches_of [] = 0
switches_of (b ∷ bs) = switches_of_end b.end + switches_of bs

-- The plain tree of a flow: well formed, it follows the flow, it has one loop with one selector, one test and one more for
-- each Switch end, and the calls and stores of the blocks.
pub record IsPlainOf (f : Flow) (t : Tree) : Type 0 where
  pub formed : IsWellFormed t
  pub follows : Follows f t
  pub loops : tree_count each_loop t ≡ 1
  pub selectors : selectors_of t ≡ 1
  pub tests : tree_count each_test t ≡ suc (switches_of f.blocks)
  pub calls : tree_count each_ext t ≡ calls_of f.blocks
  pub stores : tree_count each_store t ≡ stores_of f.blocks

-- The tree of a flow that is one line: well formed, it follows the flow, and it has no loop, no test and no selector.
pub record IsStraightOf (f : Flow) (t : Tree) : Type 0 where
  pub formed : IsWellFormed t
  pub follows : Follows f t
  pub loops : tree_count each_loop t ≡ 0
  pub selectors : selectors_of t ≡ 0
  pub tests : tree_count each_test t ≡ 0
