-- The locals that parts of a function read or load.
use Rattle.std.proofs.Common.{◌≡◌, nat_eq, Bool, true, false, ◌||◌, map, List, [], ◌∷◌, Option, Some, None}
use Rattle.dream_words.specs.declared.machine.Name.{Name}
use Rattle.dream_words.specs.declared.machine.Name.TheVariants as name
use Rattle.c_syntax.specs.declared.syntax.CExpr as e
use Rattle.c_syntax.specs.declared.syntax.CExpr.{CExpr, CExpr-F, roll-CExpr, fold-CExpr}
use Rattle.c_syntax.specs.declared.syntax.CCond as c
use Rattle.c_syntax.specs.declared.syntax.CCond.{CCond, CCond-F, roll-CCond, fold-CCond}
use Rattle.c_syntax.specs.declared.syntax.CStmt as st
use Rattle.c_syntax.specs.declared.syntax.CStmt.{CStmt, CStmt-F, roll-CStmt, fold-CStmt}
use Rattle.c_syntax.specs.declared.syntax.CArm as arm
use Rattle.c_syntax.specs.declared.syntax.CArm.{CArm, CArm-F, roll-CArm, fold-CArm}
use Rattle.c_syntax.specs.declared.syntax.CGroup as group
use Rattle.c_syntax.specs.declared.syntax.CGroup.{CGroup, CGroup-F, roll-CGroup, fold-CGroup}
use Rattle.c_locals.specs.Marks.{Marks}
use Rattle.c_locals.specs.Settled.{is_kept}

-- a set of names
abbrev pub NameSet : Type 0
NameSet = Name → Bool

-- two names are the same local for words, or for the outcome of a test
abbrev pub same_local : Name → NameSet
same_local (name.T a) (name.T b) = nat_eq a b
same_local (name.B a) (name.B b) = nat_eq a b
same_local m n = false

abbrev pub nothing : NameSet
nothing n = false

abbrev pub union : NameSet → NameSet → NameSet
union a b n = a n || b n

abbrev pub any : List NameSet → NameSet
any [] = nothing
any (a ∷ as') = union a (any as')

abbrev pub word_reads_at : CExpr-F NameSet NameSet → NameSet
word_reads_at (CExpr-F.Num x) = nothing
word_reads_at (CExpr-F.Name m) = same_local m
word_reads_at (CExpr-F.«CExpr::Not» a) = a
word_reads_at (CExpr-F.Bin op a b) = union a b
word_reads_at (CExpr-F.Fn1 f a) = a
word_reads_at (CExpr-F.Fn2 f a b) = union a b
word_reads_at (CExpr-F.Fn3 f a b d) = union a (union b d)
word_reads_at (CExpr-F.Pick t a b) = union t (union a b)

abbrev pub cond_reads_at : CCond-F NameSet NameSet → NameSet
cond_reads_at (CCond-F.Cmp op a b) = union a b
cond_reads_at (CCond-F.«CCond::Not» t) = t
cond_reads_at (CCond-F.And t u) = union t u
cond_reads_at (CCond-F.Or t u) = union t u

abbrev pub word_reads : CExpr → NameSet
word_reads = fold-CExpr NameSet NameSet cond_reads_at word_reads_at

abbrev pub cond_reads : CCond → NameSet
cond_reads = fold-CCond NameSet NameSet cond_reads_at word_reads_at

abbrev pub last_reads_at : Option (List NameSet) → NameSet
last_reads_at None = nothing
last_reads_at (Some body) = any body

abbrev pub stmt_reads_at : CStmt-F NameSet NameSet NameSet → NameSet
stmt_reads_at (CStmt-F.Set n e) = word_reads e
stmt_reads_at (CStmt-F.Load n width e) = union (word_reads e) (same_local n)
stmt_reads_at (CStmt-F.Store width e v) = union (word_reads e) (word_reads v)
stmt_reads_at (CStmt-F.Ext e) = word_reads e
stmt_reads_at (CStmt-F.Trap vector e) = word_reads e
stmt_reads_at (CStmt-F.If arms last) = union (any arms) (last_reads_at last)
stmt_reads_at (CStmt-F.Switch e groups last) = union (word_reads e) (union (any groups) (any last))
stmt_reads_at (CStmt-F.Loop body) = any body
stmt_reads_at (CStmt-F.While t body) = union (cond_reads t) (any body)
stmt_reads_at (CStmt-F.DoWhile body t) = union (any body) (cond_reads t)
stmt_reads_at CStmt-F.Break = nothing
stmt_reads_at CStmt-F.Return = nothing

abbrev pub arm_reads_at : CArm-F NameSet NameSet NameSet → NameSet
arm_reads_at a = union (cond_reads a.test) (any a.body)

abbrev pub group_reads_at : CGroup-F NameSet NameSet NameSet → NameSet
group_reads_at g = any g.body

abbrev pub stmt_reads : CStmt → NameSet
stmt_reads = fold-CStmt NameSet NameSet NameSet stmt_reads_at arm_reads_at group_reads_at

abbrev pub arm_reads : CArm → NameSet
arm_reads = fold-CArm NameSet NameSet NameSet stmt_reads_at arm_reads_at group_reads_at

abbrev pub group_reads : CGroup → NameSet
group_reads = fold-CGroup NameSet NameSet NameSet stmt_reads_at arm_reads_at group_reads_at

abbrev pub stmts_read : List CStmt → NameSet
stmts_read ss = any (map stmt_reads ss)

-- each name of a set is kept
abbrev pub Knows : Marks → NameSet → Type 0
Knows m r = (k : Name) → r k ≡ true → is_kept m k ≡ true

-- ---- layers

pub word_reads_layer : (y : CExpr-F CCond CExpr) → word_reads (roll-CExpr y) ≡ word_reads_at (e.map-CExpr CCond CExpr NameSet NameSet cond_reads word_reads y)
word_reads_layer y = e.fold-roll-CExpr NameSet NameSet cond_reads_at word_reads_at y

pub cond_reads_layer : (y : CCond-F CCond CExpr) → cond_reads (roll-CCond y) ≡ cond_reads_at (c.map-CCond CCond CExpr NameSet NameSet cond_reads word_reads y)
cond_reads_layer y = c.fold-roll-CCond NameSet NameSet cond_reads_at word_reads_at y

pub stmt_reads_layer : (y : CStmt-F CStmt CArm CGroup) → stmt_reads (roll-CStmt y) ≡ stmt_reads_at (st.map-CStmt CStmt CArm CGroup NameSet NameSet NameSet stmt_reads arm_reads group_reads y)
stmt_reads_layer y = st.fold-roll-CStmt NameSet NameSet NameSet stmt_reads_at arm_reads_at group_reads_at y

pub arm_reads_layer : (y : CArm-F CStmt CArm CGroup) → arm_reads (roll-CArm y) ≡ arm_reads_at (arm.map-CArm CStmt CArm CGroup NameSet NameSet NameSet stmt_reads arm_reads group_reads y)
arm_reads_layer y = arm.fold-roll-CArm NameSet NameSet NameSet stmt_reads_at arm_reads_at group_reads_at y

pub group_reads_layer : (y : CGroup-F CStmt CArm CGroup) → group_reads (roll-CGroup y) ≡ group_reads_at (group.map-CGroup CStmt CArm CGroup NameSet NameSet NameSet stmt_reads arm_reads group_reads y)
group_reads_layer y = group.fold-roll-CGroup NameSet NameSet NameSet stmt_reads_at arm_reads_at group_reads_at y
