-- How deep the parts of a function nest. The depth of a place is the number of Words and Conds, or of Bodies, that stand
-- round it one in another, the innermost included.
use Rattle.std.specs.Prelude.{ℕ, ◌+◌, max, List, [], ◌∷◌, Option, Some, None}
use Rattle.c_syntax.specs.declared.syntax.CExpr.{CExpr, CExpr-F, fold-CExpr}
use Rattle.c_syntax.specs.declared.syntax.CCond.{CCond, CCond-F, fold-CCond}
use Rattle.c_syntax.specs.declared.syntax.CStmt.{CStmt, CStmt-F, fold-CStmt}
use Rattle.c_syntax.specs.declared.syntax.CArm.{CArm, CArm-F, fold-CArm}
use Rattle.c_syntax.specs.declared.syntax.CGroup.{CGroup, CGroup-F, fold-CGroup}

-- A number or a name alone has depth 1; any other Word or Cond is one deeper than its deepest part.
abbrev pub word_depth_at : CExpr-F ℕ ℕ → ℕ
word_depth_at (CExpr-F.Num n) = 1
word_depth_at (CExpr-F.Name n) = 1
word_depth_at (CExpr-F.«CExpr::Not» a) = a + 1
word_depth_at (CExpr-F.Bin op a b) = max a b + 1
word_depth_at (CExpr-F.Fn1 g a) = a + 1
word_depth_at (CExpr-F.Fn2 g a b) = max a b + 1
word_depth_at (CExpr-F.Fn3 g a b c) = max a (max b c) + 1
word_depth_at (CExpr-F.Pick c a b) = max c (max a b) + 1

abbrev pub cond_depth_at : CCond-F ℕ ℕ → ℕ
cond_depth_at (CCond-F.Cmp op a b) = max a b + 1
cond_depth_at (CCond-F.«CCond::Not» c) = c + 1
cond_depth_at (CCond-F.And c d) = max c d + 1
cond_depth_at (CCond-F.Or c d) = max c d + 1

-- how many Words and Conds stand one in another in a Word, and in a Cond
abbrev pub word_depth : CExpr → ℕ
word_depth = fold-CExpr ℕ ℕ cond_depth_at word_depth_at

abbrev pub cond_depth : CCond → ℕ
cond_depth = fold-CCond ℕ ℕ cond_depth_at word_depth_at

-- the deepest of several parts
abbrev pub deepest : List ℕ → ℕ
deepest [] = 0
deepest (d ∷ ds) = max d (deepest ds)

-- a Body is one deeper than its statements
abbrev pub body_depth : List ℕ → ℕ
body_depth stmts = deepest stmts + 1

-- the Body of the last `else`, which may be missing
abbrev pub else_depth : Option (List ℕ) → ℕ
else_depth None = 0
else_depth (Some last) = body_depth last

-- The Bodies of a statement are those of its arms, groups, `else` and default, and of a loop. The braces of a switch are
-- none.
abbrev pub stmt_depth_at : CStmt-F ℕ ℕ ℕ → ℕ
stmt_depth_at (CStmt-F.Set n e) = 0
stmt_depth_at (CStmt-F.Load n w e) = 0
stmt_depth_at (CStmt-F.Store w e v) = 0
stmt_depth_at (CStmt-F.Ext e) = 0
stmt_depth_at (CStmt-F.Trap v e) = 0
stmt_depth_at (CStmt-F.If arms last) = max (deepest arms) (else_depth last)
stmt_depth_at (CStmt-F.Switch e groups last) = max (deepest groups) (body_depth last)
stmt_depth_at (CStmt-F.Loop body) = body_depth body
stmt_depth_at (CStmt-F.While c body) = body_depth body
stmt_depth_at (CStmt-F.DoWhile body c) = body_depth body
stmt_depth_at CStmt-F.Break = 0
stmt_depth_at CStmt-F.Return = 0

-- the Body of an arm, and of a group
abbrev pub arm_depth_at : CArm-F ℕ ℕ ℕ → ℕ
arm_depth_at a = body_depth a.body

abbrev pub group_depth_at : CGroup-F ℕ ℕ ℕ → ℕ
group_depth_at g = body_depth g.body

-- how many Bodies stand one in another in a statement, an arm and a group
abbrev pub stmt_depth : CStmt → ℕ
stmt_depth = fold-CStmt ℕ ℕ ℕ stmt_depth_at arm_depth_at group_depth_at

abbrev pub arm_depth : CArm → ℕ
arm_depth = fold-CArm ℕ ℕ ℕ stmt_depth_at arm_depth_at group_depth_at

abbrev pub group_depth : CGroup → ℕ
group_depth = fold-CGroup ℕ ℕ ℕ stmt_depth_at arm_depth_at group_depth_at

-- and in statements that stand one after another; the braces round a whole function are no Body
abbrev pub stmts_depth : List CStmt → ℕ
stmts_depth [] = 0
stmts_depth (s ∷ ss) = max (stmt_depth s) (stmts_depth ss)
