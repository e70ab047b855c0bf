-- The plain tree of a flow: one loop round one switch by the block that comes next.
use Rattle.std.specs.Prelude.{ℕ, ◌+◌, if◌then◌else◌, List, [], ◌∷◌, ◌++◌}
use Rattle.dream_words.specs.declared.machine.Name.{Name}
use Rattle.dream_words.specs.declared.machine.Name.TheVariants as name
use Rattle.run_parts.specs.Parts.{has}
use Rattle.c_syntax.specs.declared.syntax.CExpr.{CExpr}
use Rattle.c_words.specs.Built as built
use Rattle.micro_ir.specs.declared.flow.Case.{Case}
use Rattle.micro_ir.specs.declared.flow.End.{End as BlockEnd}
use Rattle.micro_ir.specs.declared.flow.End.TheVariants as end
use Rattle.micro_ir.specs.declared.flow.Block.{Block}
use Rattle.micro_ir.specs.declared.flow.Flow.{Flow}
use Rattle.guarded.specs.declared.tree.SetTo.TheVariants as to
use Rattle.guarded.specs.declared.tree.Tree.{Tree, Tree-F, roll-Tree}
use Rattle.guarded.specs.declared.tree.TreeCase.{TreeCase, roll-TreeCase}

-- the selector: the number of the block that comes next
abbrev pub selector : Name
selector = name.S 0

-- `s0 = e;`
abbrev pub selects : CExpr → Tree
selects e = roll-Tree (Tree-F.Set selector (to.Expr e))

-- a block comes next
abbrev pub goes_to : ℕ → Tree
goes_to n = selects (built.num n)

-- nothing
abbrev pub nothing : Tree
nothing = roll-Tree (Tree-F.Seq [])

-- the case of a value of a Switch end: its block comes next
abbrev pub value_case : Case → TreeCase
value_case c = roll-TreeCase (record { values = c.value ∷ []; body = goes_to c.to })

-- The cases of a Switch end, after those of other values. Of several cases with one value just the first stands.
abbrev pub value_cases : List ℕ → List Case → List TreeCase
value_cases seen [] = []
value_cases seen (c ∷ cases) = if has seen c.value then value_cases seen cases else value_case c ∷ value_cases (seen ++ c.value ∷ []) cases

-- the switch over the values of a Switch end
abbrev pub value_switch : List Case → Tree
value_switch cases = roll-Tree (Tree-F.Switch selector (value_cases [] cases) nothing)

-- What comes after a block. A condition is read before the selector is set. The word of a Switch end stands in the
-- selector itself until its case is found.
abbrev pub next_trees : BlockEnd → List Tree
next_trees (end.Go a) = goes_to a ∷ []
next_trees (end.Branch t a b) = selects (built.pick t (built.num a) (built.num b)) ∷ []
next_trees (end.Switch e cases) = selects e ∷ value_switch cases ∷ []
next_trees end.Return = []
next_trees (end.Leave e) = []

-- the end of a block in a tree: it goes on, returns, or leaves
abbrev pub tree_end : BlockEnd → BlockEnd
tree_end (end.Go a) = end.Go a
tree_end (end.Branch t a b) = end.Go a
tree_end (end.Switch e cases) = end.Go 0
tree_end end.Return = end.Return
tree_end (end.Leave e) = end.Leave e

-- a block in a tree
abbrev pub block_tree : Block → Tree
block_tree b = roll-Tree (Tree-F.Block (record { at = b.at; stmts = b.stmts; «end» = tree_end b.end }))

-- the case of a block
abbrev pub block_case : ℕ → Block → TreeCase
block_case n b = roll-TreeCase (record { values = n ∷ []; body = roll-Tree (Tree-F.Seq (block_tree b ∷ next_trees b.end)) })

-- the cases of blocks, which are numbered from a number on
abbrev pub block_cases : ℕ → List Block → List TreeCase
block_cases n [] = []
block_cases n (b ∷ bs) = block_case n b ∷ block_cases (n + 1) bs

-- one loop round one switch
abbrev pub selector_loop : List Block → Tree
selector_loop blocks = roll-Tree (Tree-F.Loop (roll-Tree (Tree-F.Switch selector (block_cases 0 blocks) nothing)))

-- the selector is set to the entry, and then the loop comes
abbrev pub plain_tree : Flow → Tree
plain_tree f = roll-Tree (Tree-F.Seq (goes_to f.entry ∷ selector_loop f.blocks ∷ []))
