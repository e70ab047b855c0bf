-- The canonical text of a function, which lays its tokens out in lines.
use Rattle.std.specs.Prelude.{ℕ, zero, suc, ◌+◌, ◌*◌, min, List, [], ◌∷◌, ◌++◌, codes, Option, Some, None, replicate}
use Rattle.dream_words.specs.declared.machine.Name.{Name}
use Rattle.dream_words.specs.declared.machine.Name.TheVariants as name
use Rattle.c_syntax.specs.declared.syntax.CExpr.{CExpr, CExpr-F, fold-CExpr}
use Rattle.c_syntax.specs.declared.syntax.CCond.{CCond, CCond-F, fold-CCond}
use Rattle.c_syntax.specs.declared.syntax.CStmt.{CStmt, CStmt-F, fold-CStmt}
use Rattle.c_syntax.specs.declared.syntax.CArm.{CArm, CArm-F, fold-CArm}
use Rattle.c_syntax.specs.declared.syntax.CGroup.{CGroup, CGroup-F, fold-CGroup}
use Rattle.c_syntax.specs.declared.syntax.CFun.{CFun}
use Rattle.c_syntax.specs.Spelling.{num_text, name_text, function_text, op_text, cmp_text, fn1_text, fn2_text, fn3_text, ld_text, st_text}

-- the bytes of a text
abbrev pub Text : Type 0
Text = List ℕ

-- a sign between two parts, with one space on either side
abbrev pub between : Text → Text → Text → Text
between a sign b = a ++ codes " " ++ sign ++ codes " " ++ b

-- a Word
abbrev pub word_at : CExpr-F Text Text → Text
word_at (CExpr-F.Num n) = num_text n
word_at (CExpr-F.Name n) = name_text n
word_at (CExpr-F.«CExpr::Not» a) = codes "(~" ++ a ++ codes ")"
word_at (CExpr-F.Bin op a b) = codes "(" ++ between a (op_text op) b ++ codes ")"
word_at (CExpr-F.Fn1 f a) = fn1_text f ++ codes "(" ++ a ++ codes ")"
word_at (CExpr-F.Fn2 f a b) = fn2_text f ++ codes "(" ++ a ++ codes ", " ++ b ++ codes ")"
word_at (CExpr-F.Fn3 f a b c) = fn3_text f ++ codes "(" ++ a ++ codes ", " ++ b ++ codes ", " ++ c ++ codes ")"
word_at (CExpr-F.Pick c a b) = codes "(" ++ c ++ codes " ? " ++ a ++ codes " : " ++ b ++ codes ")"

-- a Cond
abbrev pub cond_at : CCond-F Text Text → Text
cond_at (CCond-F.Cmp op a b) = codes "(" ++ between a (cmp_text op) b ++ codes ")"
cond_at (CCond-F.«CCond::Not» c) = codes "(!" ++ c ++ codes ")"
cond_at (CCond-F.And c d) = codes "(" ++ between c (codes "&&") d ++ codes ")"
cond_at (CCond-F.Or c d) = codes "(" ++ between c (codes "||") d ++ codes ")"

-- the text of a Word and of a Cond
abbrev pub word_text : CExpr → Text
word_text = fold-CExpr Text Text cond_at word_at

abbrev pub cond_text : CCond → Text
cond_text = fold-CCond Text Text cond_at word_at

-- A text that stands at a level of indentation. The body of the function is at level 1.
abbrev pub Lines : Type 0
Lines = ℕ → Text

-- two spaces a level; levels past 32 are indented as 32
abbrev pub indent : ℕ → Text
indent level = replicate (2 * min level 32) 32

-- one line at a level
abbrev pub line : ℕ → Text → Text
line level text = indent level ++ text ++ codes "\n"

-- lines one after another
abbrev pub all : List Lines → Lines
all [] level = []
all (l ∷ ls) level = l level ++ all ls level

-- A body, from its opening brace, which ends a line, up to its closing brace, which begins one. Its statements stand one
-- level deeper.
abbrev pub body_text : List Lines → Lines
body_text stmts level = codes "{\n" ++ all stmts (level + 1) ++ indent level ++ codes "}"

-- the arms after the first, each after the closing brace of the one before
abbrev pub more_arms : List Lines → Lines
more_arms [] level = []
more_arms (a ∷ arms) level = codes " else " ++ a level ++ more_arms arms level

-- all the arms of an `if`
abbrev pub arms_text : List Lines → Lines
arms_text [] level = []
arms_text (a ∷ arms) level = a level ++ more_arms arms level

-- the last `else`, which may be missing
abbrev pub else_text : Option (List Lines) → Lines
else_text None level = []
else_text (Some last) level = codes " else " ++ body_text last level

-- the values of a group, on one line
abbrev pub cases_text : List ℕ → Text
cases_text [] = []
cases_text (v ∷ vs) = codes "case " ++ num_text v ++ codes ": " ++ cases_text vs

-- A statement. The groups of a switch stand at the switch's own level.
abbrev pub stmt_at : CStmt-F Lines Lines Lines → Lines
stmt_at (CStmt-F.Set n e) level = line level (name_text n ++ codes " = " ++ word_text e ++ codes ";")
stmt_at (CStmt-F.Load n w e) level = line level (name_text n ++ codes " = " ++ ld_text w ++ codes "(" ++ word_text e ++ codes ");")
stmt_at (CStmt-F.Store w e v) level = line level (st_text w ++ codes "(" ++ word_text e ++ codes ", " ++ word_text v ++ codes ");")
stmt_at (CStmt-F.Ext e) level = line level (codes "ext(" ++ word_text e ++ codes ");")
stmt_at (CStmt-F.Trap v e) level = line level (codes "trap(" ++ num_text v ++ codes ", " ++ word_text e ++ codes ");")
stmt_at (CStmt-F.If arms last) level = line level (arms_text arms level ++ else_text last level)
stmt_at (CStmt-F.Switch e groups last) level =
    line level (codes "switch (" ++ word_text e ++ codes ") {") ++ all groups level
    ++ line level (codes "default: " ++ body_text last level ++ codes " break;") ++ line level (codes "}")
stmt_at (CStmt-F.Loop body) level = line level (codes "while (1) " ++ body_text body level)
stmt_at (CStmt-F.While c body) level = line level (codes "while (" ++ cond_text c ++ codes ") " ++ body_text body level)
stmt_at (CStmt-F.DoWhile body c) level = line level (codes "do " ++ body_text body level ++ codes " while (" ++ cond_text c ++ codes ");")
stmt_at CStmt-F.Break level = line level (codes "break;")
stmt_at CStmt-F.Return level = line level (codes "return;")

-- one arm of an `if`
abbrev pub arm_at : CArm-F Lines Lines Lines → Lines
arm_at a level = codes "if (" ++ cond_text a.test ++ codes ") " ++ body_text a.body level

-- one group of a switch
abbrev pub group_at : CGroup-F Lines Lines Lines → Lines
group_at g level = line level (cases_text g.values ++ body_text g.body level ++ codes " break;")

-- the text of a statement, of an arm and of a group
abbrev pub stmt_text : CStmt → Lines
stmt_text = fold-CStmt Lines Lines Lines stmt_at arm_at group_at

abbrev pub arm_text : CArm → Lines
arm_text = fold-CArm Lines Lines Lines stmt_at arm_at group_at

abbrev pub group_text : CGroup → Lines
group_text = fold-CGroup Lines Lines Lines stmt_at arm_at group_at

-- statements one after another
abbrev pub stmts_text : List CStmt → Lines
stmts_text [] level = []
stmts_text (s ∷ ss) level = stmt_text s level ++ stmts_text ss level

-- the declarations of the first n locals of a kind, from number 0 upwards
abbrev pub decls_text : (ℕ → Name) → ℕ → Text
decls_text kind zero = []
decls_text kind (suc n) = decls_text kind n ++ line 1 (codes "uint32_t " ++ name_text (kind n) ++ codes " = 0u;")

-- the first line of every text (C99 6.10.2)
abbrev pub include_line : Text
include_line = codes "#include \"dream386.h\"\n"

-- what comes after the include line: an empty line, the head, and the body in braces
abbrev pub fun_text : CFun → Text
fun_text f =
    codes "\nvoid " ++ function_text f.address ++ codes "(void)\n{\n" ++ decls_text name.T f.temps ++ decls_text name.B f.bools ++ decls_text name.S f.selectors
    ++ stmts_text f.body 1 ++ codes "}\n"

-- the canonical text of a function
abbrev pub canonical_text : CFun → Text
canonical_text f = include_line ++ fun_text f
