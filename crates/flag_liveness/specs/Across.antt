-- The temporaries that live across blocks.
use Rattle.std.specs.Prelude.{◌≡◌, ℕ, Bool, not, ◌&&◌, ◌||◌, List, [], ◌∷◌, Some, slice_get, IsTrue}
use Rattle.dream_words.specs.declared.machine.Name.TheVariants.{T}
use Rattle.micro_ir.specs.declared.flow.Stmt.{Stmt}
use Rattle.micro_ir.specs.declared.flow.Block.{Block}
use Rattle.micro_ir.specs.Rule.{is_flow_target}
use Rattle.flow_passes.specs.Uses.{NameSet, stmt_reads, stmt_sets, end_reads}

-- what statements read before they set it, given what is read after them
abbrev pub read_first : List Stmt → NameSet → NameSet
read_first [] after n = after n
read_first (s ∷ ss) after n = stmt_reads s n || (read_first ss after n && not (stmt_sets s n))

-- what a block reads before it sets it
abbrev pub block_reads : Block → NameSet
block_reads b = read_first b.stmts (end_reads b.end)

-- Each temporary that some block reads before it sets it is in a set.
abbrev pub Crosses : List Block → (ℕ → Bool) → Type 0
Crosses blocks across = (k : ℕ) (b : Block) → slice_get blocks k ≡ Some b → (i : ℕ) → IsTrue (is_flow_target (T i)) → IsTrue (block_reads b (T i)) → IsTrue (across i)
