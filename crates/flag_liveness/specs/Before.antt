-- Which names are live: those whose words somebody may still see.
use Rattle.std.specs.Prelude.{◌≡◌, ℕ, Bool, false, not, ◌&&◌, ◌||◌, List, [], ◌∷◌, Some, slice_get, if◌then◌else◌}
use Rattle.std.specs.List.{list_any}
use Rattle.dream_words.specs.declared.machine.Name.{Name}
use Rattle.c_syntax.specs.declared.syntax.CExpr.{CExpr}
use Rattle.c_syntax.specs.declared.syntax.CExpr.TheVariants as expr
use Rattle.micro_ir.specs.declared.flow.Stmt.{Stmt}
use Rattle.micro_ir.specs.declared.flow.Stmt.TheVariants as stmt
use Rattle.micro_ir.specs.declared.flow.End.{End as BlockEnd}
use Rattle.micro_ir.specs.declared.flow.Block.{Block}
use Rattle.micro_ir.specs.declared.flow.Flow.{Flow}
use Rattle.micro_ir.specs.Checked.{nodes_of}
use Rattle.flow_passes.specs.Uses.{NameSet, same_name, stmt_reads, stmt_sets, end_reads}
use Rattle.flow_passes.specs.Laws.{Within}

-- a Word is just a name
abbrev pub is_itself : Name → CExpr → Bool
is_itself m (expr.Name k) = same_name m k
is_itself m e = false

-- What nobody sees: to set a name that isn't live afterwards, or to set it to itself.
abbrev pub is_unseen : Stmt → NameSet → Bool
is_unseen (stmt.Set m e) after = not (after m) || is_itself m e
is_unseen s after = false

-- What is live before a statement, given what is live after it. One that nobody sees reads and sets nothing.
abbrev pub live_before : Stmt → NameSet → NameSet
live_before s after n = if is_unseen s after then after n else stmt_reads s n || (after n && not (stmt_sets s n))

-- the same of statements one after another
abbrev pub live_before_all : List Stmt → NameSet → NameSet
live_before_all [] after = after
live_before_all (s ∷ ss) after = live_before s (live_before_all ss after)

-- What is live at an end: what it reads, and what is live at one of its nodes.
abbrev pub live_at : BlockEnd → (ℕ → NameSet) → NameSet
live_at e live n = end_reads e n || list_any (λ k. live k n) (nodes_of e)

-- what is live at the beginning of a block, given what is live at the beginnings of all
abbrev pub live_in : Block → (ℕ → NameSet) → NameSet
live_in b live = live_before_all b.stmts (live_at b.end live)

-- Sets of live names are closed: what is live at the beginning of a block is in its set.
abbrev pub AreLive : Flow → (ℕ → NameSet) → Type 0
AreLive f live = (k : ℕ) (b : Block) → slice_get f.blocks k ≡ Some b → Within (live_in b live) (live k)
