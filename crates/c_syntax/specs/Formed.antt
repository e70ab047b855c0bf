-- Which functions are well formed: those that some text stands for. These are the conditions that the productions of the
-- grammar don't say by themselves.
use Rattle.std.specs.Prelude.{ℕ, ◌<◌, ◌≤◌, ◌^◌, Bool, true, false, not, ◌&&◌, nat_lt, nat_le, IsTrue, List, [], ◌∷◌, ◌++◌, Option, Some, None}
use Rattle.dream_words.specs.declared.machine.Name.{Name}
use Rattle.dream_words.specs.declared.machine.Name.TheVariants as name
use Rattle.run_parts.specs.Parts.{has}
use Rattle.c_syntax.specs.declared.syntax.CExpr.{CExpr, CExpr-F, fold-CExpr}
use Rattle.c_syntax.specs.declared.syntax.CCond.{CCond, CCond-F, fold-CCond}
use Rattle.c_syntax.specs.declared.syntax.CStmt.{CStmt, CStmt-F, fold-CStmt}
use Rattle.c_syntax.specs.declared.syntax.CArm.{CArm, CArm-F, fold-CArm}
use Rattle.c_syntax.specs.declared.syntax.CGroup.{CGroup, CGroup-F, fold-CGroup}
use Rattle.c_syntax.specs.declared.syntax.CFun.{CFun}
use Rattle.c_syntax.specs.Depth.{word_depth, cond_depth, stmts_depth}

-- a number that has at most eight hexadecimal digits
abbrev pub is_word : ℕ → Bool
is_word n = nat_lt n (2 ^ 32)

-- A name of the function: one of the eight registers, of the five flags, a base of a segment, or a local that is declared.
abbrev pub is_declared : CFun → Name → Bool
is_declared f (name.Reg n) = nat_lt n 8
is_declared f (name.Flag n) = nat_lt n 5
is_declared f name.Fs = true
is_declared f name.Gs = true
is_declared f (name.T n) = nat_lt n f.temps
is_declared f (name.B n) = nat_lt n f.bools
is_declared f (name.S n) = nat_lt n f.selectors

-- the base of a segment, which isn't assigned
abbrev pub is_base : Name → Bool
is_base (name.Reg n) = false
is_base (name.Flag n) = false
is_base name.Fs = true
is_base name.Gs = true
is_base (name.T n) = false
is_base (name.B n) = false
is_base (name.S n) = false

-- a name that is assigned
abbrev pub is_target : CFun → Name → Bool
is_target f n = is_declared f n && not (is_base n)

-- every number of a Word is a word, and every name one of the function
abbrev pub word_names : CFun → CExpr-F Bool Bool → Bool
word_names f (CExpr-F.Num n) = is_word n
word_names f (CExpr-F.Name n) = is_declared f n
word_names f (CExpr-F.«CExpr::Not» a) = a
word_names f (CExpr-F.Bin op a b) = a && b
word_names f (CExpr-F.Fn1 g a) = a
word_names f (CExpr-F.Fn2 g a b) = a && b
word_names f (CExpr-F.Fn3 g a b c) = a && (b && c)
word_names f (CExpr-F.Pick c a b) = c && (a && b)

abbrev pub cond_names : CCond-F Bool Bool → Bool
cond_names (CCond-F.Cmp op a b) = a && b
cond_names (CCond-F.«CCond::Not» c) = c
cond_names (CCond-F.And c d) = c && d
cond_names (CCond-F.Or c d) = c && d

-- the same of a whole Word, and of a whole Cond
abbrev pub names_word : CFun → CExpr → Bool
names_word f = fold-CExpr Bool Bool cond_names (word_names f)

abbrev pub names_cond : CFun → CCond → Bool
names_cond f = fold-CCond Bool Bool cond_names (word_names f)

-- no number stands twice
abbrev pub are_distinct : List ℕ → Bool
are_distinct [] = true
are_distinct (v ∷ vs) = not (has vs v) && are_distinct vs

-- each number is a word
abbrev pub are_words : List ℕ → Bool
are_words [] = true
are_words (v ∷ vs) = is_word v && are_words vs

-- there is at least one
abbrev pub has_any : {A : Type 0} → List A → Bool
has_any [] = false
has_any (x ∷ xs) = true

-- whether a statement may stand in the function, where `breakable` says that a loop or a switch stands round it
abbrev pub Allowed : Type 0
Allowed = (breakable : Bool) → Bool

-- all of several statements
abbrev pub all : List Allowed → Allowed
all [] breakable = true
all (s ∷ ss) breakable = s breakable && all ss breakable

-- the Body of the last `else`, which may be missing
abbrev pub else_allowed : Option (List Allowed) → Allowed
else_allowed None breakable = true
else_allowed (Some last) breakable = all last breakable

-- a group's values, and whether it is allowed
abbrev pub GroupAllowed : Type 0
GroupAllowed = List ℕ × Bool

-- the values of all groups
abbrev pub groups_values : List GroupAllowed → List ℕ
groups_values [] = []
groups_values (g ∷ gs) = g.0 ++ groups_values gs

-- all groups are allowed
abbrev pub all_groups : List GroupAllowed → Bool
all_groups [] = true
all_groups (g ∷ gs) = g.1 && all_groups gs

-- a Word or Cond of the function, at most 256 deep
abbrev pub word_allowed : CFun → CExpr → Bool
word_allowed f e = names_word f e && nat_le (word_depth e) 256

abbrev pub cond_allowed : CFun → CCond → Bool
cond_allowed f c = names_cond f c && nat_le (cond_depth c) 256

-- A statement: its names, numbers, Words and Conds are allowed. An `if` has an arm. In a switch no value stands twice. A
-- `break` stands only inside a loop or a switch.
abbrev pub stmt_at : CFun → CStmt-F Allowed Allowed GroupAllowed → Allowed
stmt_at f (CStmt-F.Set n e) breakable = is_target f n && word_allowed f e
stmt_at f (CStmt-F.Load n w e) breakable = is_target f n && word_allowed f e
stmt_at f (CStmt-F.Store w e v) breakable = word_allowed f e && word_allowed f v
stmt_at f (CStmt-F.Ext e) breakable = word_allowed f e
stmt_at f (CStmt-F.Trap v e) breakable = is_word v && word_allowed f e
stmt_at f (CStmt-F.If arms last) breakable = has_any arms && (all arms breakable && else_allowed last breakable)
stmt_at f (CStmt-F.Switch e groups last) breakable =
    word_allowed f e && (all_groups groups && (are_distinct (groups_values groups) && all last true))
stmt_at f (CStmt-F.Loop body) breakable = all body true
stmt_at f (CStmt-F.While c body) breakable = cond_allowed f c && all body true
stmt_at f (CStmt-F.DoWhile body c) breakable = all body true && cond_allowed f c
stmt_at f CStmt-F.Break breakable = breakable
stmt_at f CStmt-F.Return breakable = true

-- an arm: its test and its body
abbrev pub arm_at : CFun → CArm-F Allowed Allowed GroupAllowed → Allowed
arm_at f a breakable = cond_allowed f a.test && all a.body breakable

-- a group: it has a value, and its body is in a switch
abbrev pub group_at : CGroup-F Allowed Allowed GroupAllowed → GroupAllowed
group_at g = (g.values, has_any g.values && (are_words g.values && all g.body true))

-- the same of a whole statement, arm and group
abbrev pub stmt_allowed : CFun → CStmt → Allowed
stmt_allowed f = fold-CStmt Allowed Allowed GroupAllowed (stmt_at f) (arm_at f) group_at

abbrev pub arm_allowed : CFun → CArm → Allowed
arm_allowed f = fold-CArm Allowed Allowed GroupAllowed (stmt_at f) (arm_at f) group_at

abbrev pub group_allowed : CFun → CGroup → GroupAllowed
group_allowed f = fold-CGroup Allowed Allowed GroupAllowed (stmt_at f) (arm_at f) group_at

-- all statements of the function, of which none is in a loop or a switch by itself
abbrev pub stmts_allowed : CFun → List CStmt → Bool
stmts_allowed f [] = true
stmts_allowed f (s ∷ ss) = stmt_allowed f s false && stmts_allowed f ss

-- A function is well formed: its address is a word, the numbers of its locals of a kind go up to 4,294,967,294 at most, its
-- statements are allowed, and no more than 512 Bodies stand one in another.
pub record IsWellFormed (f : CFun) : Type 0 where
  pub address : f.address < 2 ^ 32
  pub temps : f.temps < 2 ^ 32
  pub bools : f.bools < 2 ^ 32
  pub selectors : f.selectors < 2 ^ 32
  pub allowed : IsTrue (stmts_allowed f f.body)
  pub depth : stmts_depth f.body ≤ 512
