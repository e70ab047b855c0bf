-- When one block more stands last, and when some statements more are taken.
use Rattle.std.specs.Prelude.{◌≡◌, ◌<◌, ◌≤◌, ℕ, List, [], ◌∷◌, ◌++◌, length}
use Rattle.micro_ir.specs.declared.flow.Stmt.{Stmt}
use Rattle.micro_ir.specs.declared.flow.Block.{Block}
use Rattle.flow_passes.specs.Uses.{NameSet}
use Rattle.expr_fold.specs.declared.folding.Folding.{Folding}
use Rattle.expr_fold.specs.Follows.{FollowsFirst}
use Rattle.expr_fold.specs.Folds.{LivesAt, FoldsBlock}

-- the new list has one block more, a block with words in place
abbrev pub AddsFolded : (ℕ → NameSet) → Block → List Block → List Block → Type 0
AddsFolded live b old new = (c : Block) × (new ≡ old ++ c ∷ []) × ((k : ℕ) → LivesAt live k b → FoldsBlock live k b c)

-- Statements are taken from one place to a later one.
abbrev pub Advances : NameSet → List Stmt → ℕ → ℕ → Folding → Folding → Type 0
Advances last all i j old new = (i < j) × (j ≤ length all) × (FollowsFirst last all i old.done old.delayed.items → FollowsFirst last all j new.done new.delayed.items)
