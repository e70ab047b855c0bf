-- How many loops, tests, calls and stores trees and functions have.
use Rattle.std.specs.Prelude.{ℕ, ◌+◌, length, List, [], ◌∷◌, Option, Some, None}
use Rattle.c_syntax.specs.declared.syntax.CStmt.{CStmt, CStmt-F, fold-CStmt}
use Rattle.c_syntax.specs.declared.syntax.CArm.{CArm, CArm-F, fold-CArm}
use Rattle.c_syntax.specs.declared.syntax.CGroup.{CGroup, CGroup-F, fold-CGroup}
use Rattle.c_syntax.specs.declared.syntax.CFun.{CFun}
use Rattle.micro_ir.specs.declared.flow.Stmt.{Stmt}
use Rattle.micro_ir.specs.declared.flow.Stmt.TheVariants as stmt
use Rattle.micro_ir.specs.declared.flow.End.{End as BlockEnd}
use Rattle.micro_ir.specs.declared.flow.End.TheVariants as end
use Rattle.micro_ir.specs.declared.flow.Block.{Block}
use Rattle.guarded.specs.declared.tree.Tree.{Tree, Tree-F, fold-Tree}
use Rattle.guarded.specs.declared.tree.TreeCase.{TreeCase, TreeCase-F, fold-TreeCase}
use Rattle.guarded.specs.Uses.{names_of, tree_uses}
use Rattle.guarded.specs.Numbers.{locals_of}

-- What each loop, each test, each call of a function that isn't printed, and each store counts.
pub record Weights : Type 0 where
  pub loop : ℕ
  pub test : ℕ
  pub ext : ℕ
  pub store : ℕ

-- the sum of counts
abbrev pub total : List ℕ → ℕ
total [] = 0
total (n ∷ ns) = n + total ns

-- the count of what may be missing
abbrev pub if_some : Option ℕ → ℕ
if_some None = 0
if_some (Some n) = n

-- ---- trees

abbrev pub stmt_count : Weights → Stmt → ℕ
stmt_count w (stmt.Set n e) = 0
stmt_count w (stmt.Load n width e) = 0
stmt_count w (stmt.Store width e f) = w.store
stmt_count w (stmt.Ext e) = w.ext
stmt_count w (stmt.Trap vector e) = 0

abbrev pub stmts_count : Weights → List Stmt → ℕ
stmts_count w [] = 0
stmts_count w (s ∷ ss) = stmt_count w s + stmts_count w ss

-- an end that leaves is a call
abbrev pub end_count : Weights → BlockEnd → ℕ
end_count w (end.Go a) = 0
end_count w (end.Branch t a b) = 0
end_count w (end.Switch e cases) = 0
end_count w end.Return = 0
end_count w (end.Leave e) = w.ext

abbrev pub block_count : Weights → Block → ℕ
block_count w b = stmts_count w b.stmts + end_count w b.end

-- An If, a Switch, a While and a DoWhile have a test each; a Loop has none.
abbrev pub tree_count_at : Weights → Tree-F ℕ ℕ → ℕ
tree_count_at w (Tree-F.Block b) = block_count w b
tree_count_at w (Tree-F.Seq members) = total members
tree_count_at w (Tree-F.If t a b) = w.test + (a + if_some b)
tree_count_at w (Tree-F.Switch n cases last) = w.test + (total cases + last)
tree_count_at w (Tree-F.Loop a) = w.loop + a
tree_count_at w (Tree-F.While t a) = w.loop + (w.test + a)
tree_count_at w (Tree-F.DoWhile a t) = w.loop + (w.test + a)
tree_count_at w Tree-F.Break = 0
tree_count_at w (Tree-F.Set n to) = 0

abbrev pub case_count_at : TreeCase-F ℕ ℕ → ℕ
case_count_at c = c.body

abbrev pub tree_count : Weights → Tree → ℕ
tree_count w = fold-Tree ℕ ℕ (tree_count_at w) case_count_at

abbrev pub case_count : Weights → TreeCase → ℕ
case_count w = fold-TreeCase ℕ ℕ (tree_count_at w) case_count_at

-- ---- C

-- An arm of an `if`, a `switch`, and a loop other than `while (1)` have a test each.
abbrev pub c_stmt_count_at : Weights → CStmt-F ℕ ℕ ℕ → ℕ
c_stmt_count_at w (CStmt-F.Set n e) = 0
c_stmt_count_at w (CStmt-F.Load n width e) = 0
c_stmt_count_at w (CStmt-F.Store width e f) = w.store
c_stmt_count_at w (CStmt-F.Ext e) = w.ext
c_stmt_count_at w (CStmt-F.Trap vector e) = 0
c_stmt_count_at w (CStmt-F.If arms None) = total arms
c_stmt_count_at w (CStmt-F.If arms (Some last)) = total arms + total last
c_stmt_count_at w (CStmt-F.Switch e groups last) = w.test + (total groups + total last)
c_stmt_count_at w (CStmt-F.Loop body) = w.loop + total body
c_stmt_count_at w (CStmt-F.While t body) = w.loop + (w.test + total body)
c_stmt_count_at w (CStmt-F.DoWhile body t) = w.loop + (w.test + total body)
c_stmt_count_at w CStmt-F.Break = 0
c_stmt_count_at w CStmt-F.Return = 0

abbrev pub c_arm_count_at : Weights → CArm-F ℕ ℕ ℕ → ℕ
c_arm_count_at w a = w.test + total a.body

abbrev pub c_group_count_at : CGroup-F ℕ ℕ ℕ → ℕ
c_group_count_at g = total g.body

abbrev pub c_stmt_count : Weights → CStmt → ℕ
c_stmt_count w = fold-CStmt ℕ ℕ ℕ (c_stmt_count_at w) (c_arm_count_at w) c_group_count_at

abbrev pub c_arm_count : Weights → CArm → ℕ
c_arm_count w = fold-CArm ℕ ℕ ℕ (c_stmt_count_at w) (c_arm_count_at w) c_group_count_at

abbrev pub c_group_count : Weights → CGroup → ℕ
c_group_count w = fold-CGroup ℕ ℕ ℕ (c_stmt_count_at w) (c_arm_count_at w) c_group_count_at

-- statements one after another
abbrev pub c_count : Weights → List CStmt → ℕ
c_count w [] = 0
c_count w (s ∷ ss) = c_stmt_count w s + c_count w ss

-- ---- each count

abbrev pub each_loop : Weights
each_loop = record { loop = 1; test = 0; ext = 0; store = 0 }

abbrev pub each_test : Weights
each_test = record { loop = 0; test = 1; ext = 0; store = 0 }

abbrev pub each_ext : Weights
each_ext = record { loop = 0; test = 0; ext = 1; store = 0 }

abbrev pub each_store : Weights
each_store = record { loop = 0; test = 0; ext = 0; store = 1 }

-- the different locals of a tree that select where a loop goes on
abbrev pub selectors_of : Tree → ℕ
selectors_of t = length (locals_of (names_of (tree_uses t))).selectors

-- the loops, tests, calls and stores of a function; its selectors are those that it declares
abbrev pub loops_in : CFun → ℕ
loops_in f = c_count each_loop f.body

abbrev pub tests_in : CFun → ℕ
tests_in f = c_count each_test f.body

abbrev pub ext_in : CFun → ℕ
ext_in f = c_count each_ext f.body

abbrev pub stores_in : CFun → ℕ
stores_in f = c_count each_store f.body

abbrev pub selectors_in : CFun → ℕ
selectors_in f = f.selectors
