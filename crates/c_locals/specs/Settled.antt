-- A function without the locals that nothing reads.
use Rattle.std.specs.Prelude.{ℕ, ◌+◌, Bool, true, if◌then◌else◌, slice_index_or, map, List, [], ◌∷◌, Option, Some, None}
use Rattle.dream_words.specs.declared.machine.Name.{Name}
use Rattle.dream_words.specs.declared.machine.Name.TheVariants as name
use Rattle.c_syntax.specs.declared.syntax.CExpr.{CExpr, CExpr-F, roll-CExpr, fold-CExpr}
use Rattle.c_syntax.specs.declared.syntax.CCond.{CCond, CCond-F, roll-CCond, fold-CCond}
use Rattle.c_syntax.specs.declared.syntax.CStmt.{CStmt, CStmt-F, roll-CStmt, fold-CStmt}
use Rattle.c_syntax.specs.declared.syntax.CArm.{CArm, CArm-F, roll-CArm, fold-CArm}
use Rattle.c_syntax.specs.declared.syntax.CGroup.{CGroup, CGroup-F, roll-CGroup, fold-CGroup}
use Rattle.c_syntax.specs.declared.syntax.CFun.{CFun}
use Rattle.c_locals.specs.Marks.{Marks, marks_of}

-- ---- new numbers

-- how many are marked
abbrev pub count_of : List Bool → ℕ
count_of [] = 0
count_of (b ∷ bs) = (if b then 1 else 0) + count_of bs

-- The new number of each: from a first number on, one for each that is marked.
abbrev pub numbers_of : List Bool → ℕ → List ℕ
numbers_of [] next = []
numbers_of (b ∷ bs) next = next ∷ numbers_of bs (if b then next + 1 else next)

-- a number that isn't declared stays
abbrev pub new_number : List Bool → ℕ → ℕ
new_number bs n = slice_index_or (numbers_of bs 0) n n

abbrev pub new_name : Marks → Name → Name
new_name m (name.Reg n) = name.Reg n
new_name m (name.Flag n) = name.Flag n
new_name m name.Fs = name.Fs
new_name m name.Gs = name.Gs
new_name m (name.T n) = name.T (new_number m.temps n)
new_name m (name.B n) = name.B (new_number m.bools n)
new_name m (name.S n) = name.S n

-- A name is kept, unless it is a local for words, or for the outcome of a test, that isn't marked.
abbrev pub is_kept : Marks → Name → Bool
is_kept m (name.Reg n) = true
is_kept m (name.Flag n) = true
is_kept m name.Fs = true
is_kept m name.Gs = true
is_kept m (name.T n) = slice_index_or m.temps n true
is_kept m (name.B n) = slice_index_or m.bools n true
is_kept m (name.S n) = true

-- ---- Words and Conds with new names

abbrev pub word_at : (Name → Name) → CExpr-F CCond CExpr → CExpr
word_at f (CExpr-F.Num n) = roll-CExpr (CExpr-F.Num n)
word_at f (CExpr-F.Name n) = roll-CExpr (CExpr-F.Name (f n))
word_at f (CExpr-F.«CExpr::Not» a) = roll-CExpr (CExpr-F.«CExpr::Not» a)
word_at f (CExpr-F.Bin op a b) = roll-CExpr (CExpr-F.Bin op a b)
word_at f (CExpr-F.Fn1 g a) = roll-CExpr (CExpr-F.Fn1 g a)
word_at f (CExpr-F.Fn2 g a b) = roll-CExpr (CExpr-F.Fn2 g a b)
word_at f (CExpr-F.Fn3 g a b c) = roll-CExpr (CExpr-F.Fn3 g a b c)
word_at f (CExpr-F.Pick t a b) = roll-CExpr (CExpr-F.Pick t a b)

abbrev pub cond_at : CCond-F CCond CExpr → CCond
cond_at (CCond-F.Cmp op a b) = roll-CCond (CCond-F.Cmp op a b)
cond_at (CCond-F.«CCond::Not» t) = roll-CCond (CCond-F.«CCond::Not» t)
cond_at (CCond-F.And t u) = roll-CCond (CCond-F.And t u)
cond_at (CCond-F.Or t u) = roll-CCond (CCond-F.Or t u)

abbrev pub renamed_word : (Name → Name) → CExpr → CExpr
renamed_word f = fold-CExpr CCond CExpr cond_at (word_at f)

abbrev pub renamed_cond : (Name → Name) → CCond → CCond
renamed_cond f = fold-CCond CCond CExpr cond_at (word_at f)

-- ---- statements

-- what is kept of statements
abbrev pub those : List (Option CStmt) → List CStmt
those [] = []
those (None ∷ ss) = those ss
those (Some s ∷ ss) = s ∷ those ss

-- the last `else`
abbrev pub last_of : Option (List (Option CStmt)) → Option (List CStmt)
last_of None = None
last_of (Some body) = Some (those body)

-- A Set of a name that isn't kept goes; any other statement stays, with new names.
abbrev pub stmt_at : Marks → CStmt-F (Option CStmt) CArm CGroup → Option CStmt
stmt_at m (CStmt-F.Set n e) = if is_kept m n then Some (roll-CStmt (CStmt-F.Set (new_name m n) (renamed_word (new_name m) e))) else None
stmt_at m (CStmt-F.Load n width e) = Some (roll-CStmt (CStmt-F.Load (new_name m n) width (renamed_word (new_name m) e)))
stmt_at m (CStmt-F.Store width e v) = Some (roll-CStmt (CStmt-F.Store width (renamed_word (new_name m) e) (renamed_word (new_name m) v)))
stmt_at m (CStmt-F.Ext e) = Some (roll-CStmt (CStmt-F.Ext (renamed_word (new_name m) e)))
stmt_at m (CStmt-F.Trap vector e) = Some (roll-CStmt (CStmt-F.Trap vector (renamed_word (new_name m) e)))
stmt_at m (CStmt-F.If arms last) = Some (roll-CStmt (CStmt-F.If arms (last_of last)))
stmt_at m (CStmt-F.Switch e groups last) = Some (roll-CStmt (CStmt-F.Switch (renamed_word (new_name m) e) groups (those last)))
stmt_at m (CStmt-F.Loop body) = Some (roll-CStmt (CStmt-F.Loop (those body)))
stmt_at m (CStmt-F.While t body) = Some (roll-CStmt (CStmt-F.While (renamed_cond (new_name m) t) (those body)))
stmt_at m (CStmt-F.DoWhile body t) = Some (roll-CStmt (CStmt-F.DoWhile (those body) (renamed_cond (new_name m) t)))
stmt_at m CStmt-F.Break = Some (roll-CStmt CStmt-F.Break)
stmt_at m CStmt-F.Return = Some (roll-CStmt CStmt-F.Return)

abbrev pub arm_at : Marks → CArm-F (Option CStmt) CArm CGroup → CArm
arm_at m a = roll-CArm (record { test = renamed_cond (new_name m) a.test; body = those a.body })

abbrev pub group_at : CGroup-F (Option CStmt) CArm CGroup → CGroup
group_at g = roll-CGroup (record { values = g.values; body = those g.body })

abbrev pub settled_stmt : Marks → CStmt → Option CStmt
settled_stmt m = fold-CStmt (Option CStmt) CArm CGroup (stmt_at m) (arm_at m) group_at

abbrev pub settled_arm : Marks → CArm → CArm
settled_arm m = fold-CArm (Option CStmt) CArm CGroup (stmt_at m) (arm_at m) group_at

abbrev pub settled_group : Marks → CGroup → CGroup
settled_group m = fold-CGroup (Option CStmt) CArm CGroup (stmt_at m) (arm_at m) group_at

abbrev pub settled_all : Marks → List CStmt → List CStmt
settled_all m ss = those (map (settled_stmt m) ss)

-- ---- functions

-- the function, by the locals that are kept
abbrev pub settled_with : Marks → CFun → CFun
settled_with m f = record {
  address = f.address;
  temps = count_of m.temps;
  bools = count_of m.bools;
  selectors = f.selectors;
  body = settled_all m f.body;
}

abbrev pub settled : CFun → CFun
settled f = settled_with (marks_of f) f
