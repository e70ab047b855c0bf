-- Which locals are marked after the names of a part are: each name that is read, and each one that is loaded.
use Rattle.std.specs.Prelude.{ℕ, Bool, true, false, slice_set, replicate, map, List, [], ◌∷◌, Option, Some, None}
use Rattle.dream_words.specs.declared.machine.Name.{Name}
use Rattle.dream_words.specs.declared.machine.Name.TheVariants as name
use Rattle.c_syntax.specs.declared.syntax.CExpr.{CExpr, CExpr-F, fold-CExpr}
use Rattle.c_syntax.specs.declared.syntax.CCond.{CCond, CCond-F, fold-CCond}
use Rattle.c_syntax.specs.declared.syntax.CStmt.{CStmt, CStmt-F, fold-CStmt}
use Rattle.c_syntax.specs.declared.syntax.CArm.{CArm, CArm-F, fold-CArm}
use Rattle.c_syntax.specs.declared.syntax.CGroup.{CGroup, CGroup-F, fold-CGroup}
use Rattle.c_syntax.specs.declared.syntax.CFun.{CFun}

-- For each local for words, and for each one for the outcome of a test, whether it is marked.
pub record Marks : Type 0 where
  pub temps : List Bool
  pub bools : List Bool

-- from the marks so far to those after a part
abbrev pub Step : Type 0
Step = Marks → Marks

-- a name is marked; registers, flags, bases and selectors have no mark
abbrev pub with_name : Name → Step
with_name (name.Reg n) m = m
with_name (name.Flag n) m = m
with_name name.Fs m = m
with_name name.Gs m = m
with_name (name.T n) m = record { temps = slice_set m.temps n true; bools = m.bools }
with_name (name.B n) m = record { temps = m.temps; bools = slice_set m.bools n true }
with_name (name.S n) m = m

-- parts one after another
abbrev pub all_in : List Step → Step
all_in [] m = m
all_in (g ∷ gs) m = all_in gs (g m)

abbrev pub word_at : CExpr-F Step Step → Step
word_at (CExpr-F.Num n) m = m
word_at (CExpr-F.Name n) m = with_name n m
word_at (CExpr-F.«CExpr::Not» a) m = a m
word_at (CExpr-F.Bin op a b) m = b (a m)
word_at (CExpr-F.Fn1 g a) m = a m
word_at (CExpr-F.Fn2 g a b) m = b (a m)
word_at (CExpr-F.Fn3 g a b c) m = c (b (a m))
word_at (CExpr-F.Pick t a b) m = b (a (t m))

abbrev pub cond_at : CCond-F Step Step → Step
cond_at (CCond-F.Cmp op a b) m = b (a m)
cond_at (CCond-F.«CCond::Not» t) m = t m
cond_at (CCond-F.And t u) m = u (t m)
cond_at (CCond-F.Or t u) m = u (t m)

abbrev pub with_word : CExpr → Step
with_word = fold-CExpr Step Step cond_at word_at

abbrev pub with_cond : CCond → Step
with_cond = fold-CCond Step Step cond_at word_at

-- the last `else`
abbrev pub last_in : Option (List Step) → Step
last_in None m = m
last_in (Some body) m = all_in body m

-- A name that is only set isn't marked.
abbrev pub stmt_at : CStmt-F Step Step Step → Step
stmt_at (CStmt-F.Set n e) m = with_word e m
stmt_at (CStmt-F.Load n width e) m = with_name n (with_word e m)
stmt_at (CStmt-F.Store width e v) m = with_word v (with_word e m)
stmt_at (CStmt-F.Ext e) m = with_word e m
stmt_at (CStmt-F.Trap vector e) m = with_word e m
stmt_at (CStmt-F.If arms last) m = last_in last (all_in arms m)
stmt_at (CStmt-F.Switch e groups last) m = all_in last (all_in groups (with_word e m))
stmt_at (CStmt-F.Loop body) m = all_in body m
stmt_at (CStmt-F.While t body) m = all_in body (with_cond t m)
stmt_at (CStmt-F.DoWhile body t) m = with_cond t (all_in body m)
stmt_at CStmt-F.Break m = m
stmt_at CStmt-F.Return m = m

abbrev pub arm_at : CArm-F Step Step Step → Step
arm_at a m = all_in a.body (with_cond a.test m)

abbrev pub group_at : CGroup-F Step Step Step → Step
group_at g m = all_in g.body m

abbrev pub with_stmt : CStmt → Step
with_stmt = fold-CStmt Step Step Step stmt_at arm_at group_at

abbrev pub with_arm : CArm → Step
with_arm = fold-CArm Step Step Step stmt_at arm_at group_at

abbrev pub with_group : CGroup → Step
with_group = fold-CGroup Step Step Step stmt_at arm_at group_at

-- no local is marked
abbrev pub no_marks : ℕ → ℕ → Marks
no_marks temps bools = record { temps = replicate temps false; bools = replicate bools false }

-- the locals of a function that are read or loaded
abbrev pub marks_of : CFun → Marks
marks_of f = all_in (map with_stmt f.body) (no_marks f.temps f.bools)
