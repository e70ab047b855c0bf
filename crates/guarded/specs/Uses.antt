-- The names that trees and functions read and set, place by place.
use Rattle.std.specs.Prelude.{List, [], ◌∷◌, ◌++◌, Option, Some, None}
use Rattle.dream_words.specs.declared.machine.Name.{Name}
use Rattle.dream_words.specs.declared.machine.Name.TheVariants as name
use Rattle.c_syntax.specs.declared.syntax.CExpr.{CExpr, CExpr-F, fold-CExpr}
use Rattle.c_syntax.specs.declared.syntax.CCond.{CCond, CCond-F, fold-CCond}
use Rattle.c_syntax.specs.declared.syntax.CStmt.{CStmt, CStmt-F, fold-CStmt}
use Rattle.c_syntax.specs.declared.syntax.CArm.{CArm, CArm-F, fold-CArm}
use Rattle.c_syntax.specs.declared.syntax.CGroup.{CGroup, CGroup-F, fold-CGroup}
use Rattle.cond_terms.specs.declared.term.Lit.{Lit}
use Rattle.cond_terms.specs.declared.term.Lit.TheVariants as lit
use Rattle.cond_terms.specs.declared.term.Term.{Term, Term-F, fold-Term}
use Rattle.micro_ir.specs.declared.flow.Stmt.{Stmt}
use Rattle.micro_ir.specs.declared.flow.Stmt.TheVariants as stmt
use Rattle.micro_ir.specs.declared.flow.End.{End as BlockEnd}
use Rattle.micro_ir.specs.declared.flow.End.TheVariants as end
use Rattle.micro_ir.specs.declared.flow.Block.{Block}
use Rattle.guarded.specs.declared.tree.SetTo.{SetTo}
use Rattle.guarded.specs.declared.tree.SetTo.TheVariants as to
use Rattle.guarded.specs.declared.tree.Tree.{Tree, Tree-F, fold-Tree}
use Rattle.guarded.specs.declared.tree.TreeCase.{TreeCase, TreeCase-F, fold-TreeCase}

-- A name is read where it stands in a Word or Cond, and set where a statement sets or loads it.
pub data Use : Type 0 where
  Reads : Name → Use
  Sets : Name → Use

-- lists one after another
abbrev pub joined : {A : Type 0} → List (List A) → List A
joined [] = []
joined (xs ∷ rest) = xs ++ joined rest

-- what may be missing
abbrev pub if_any : {A : Type 0} → Option (List A) → List A
if_any None = []
if_any (Some xs) = xs

-- the name of a use
abbrev pub name_of : Use → Name
name_of (Reads n) = n
name_of (Sets n) = n

-- the names of uses
abbrev pub names_of : List Use → List Name
names_of [] = []
names_of (u ∷ us) = name_of u ∷ names_of us

-- those that are read
abbrev pub read_in : List Use → List Name
read_in [] = []
read_in (Reads n ∷ us) = n ∷ read_in us
read_in (Sets n ∷ us) = read_in us

-- those that are set
abbrev pub set_in : List Use → List Name
set_in [] = []
set_in (Reads n ∷ us) = set_in us
set_in (Sets n ∷ us) = n ∷ set_in us

-- ---- Words, Conds and terms

abbrev pub word_uses_at : CExpr-F (List Use) (List Use) → List Use
word_uses_at (CExpr-F.Num n) = []
word_uses_at (CExpr-F.Name n) = Reads n ∷ []
word_uses_at (CExpr-F.«CExpr::Not» a) = a
word_uses_at (CExpr-F.Bin op a b) = a ++ b
word_uses_at (CExpr-F.Fn1 g a) = a
word_uses_at (CExpr-F.Fn2 g a b) = a ++ b
word_uses_at (CExpr-F.Fn3 g a b c) = a ++ (b ++ c)
word_uses_at (CExpr-F.Pick c a b) = c ++ (a ++ b)

abbrev pub cond_uses_at : CCond-F (List Use) (List Use) → List Use
cond_uses_at (CCond-F.Cmp op a b) = a ++ b
cond_uses_at (CCond-F.«CCond::Not» c) = c
cond_uses_at (CCond-F.And c d) = c ++ d
cond_uses_at (CCond-F.Or c d) = c ++ d

-- a Word, and a Cond
abbrev pub word_uses : CExpr → List Use
word_uses = fold-CExpr (List Use) (List Use) cond_uses_at word_uses_at

abbrev pub cond_uses : CCond → List Use
cond_uses = fold-CCond (List Use) (List Use) cond_uses_at word_uses_at

-- a literal reads the local of its variable
abbrev pub lit_uses : Lit → List Use
lit_uses (lit.Bool v) = Reads (name.B v) ∷ []
lit_uses (lit.Eq v x) = Reads (name.B v) ∷ []

abbrev pub term_uses_at : Term-F (List Use) → List Use
term_uses_at Term-F.True = []
term_uses_at Term-F.False = []
term_uses_at (Term-F.Lit l) = lit_uses l
term_uses_at (Term-F.Not t) = t
term_uses_at (Term-F.And s t) = s ++ t
term_uses_at (Term-F.Or s t) = s ++ t

-- a term
abbrev pub term_uses : Term → List Use
term_uses = fold-Term (List Use) term_uses_at

-- ---- trees

-- a statement of a block; what is read comes before what is set
abbrev pub stmt_uses : Stmt → List Use
stmt_uses (stmt.Set n e) = word_uses e ++ Sets n ∷ []
stmt_uses (stmt.Load n width e) = word_uses e ++ Sets n ∷ []
stmt_uses (stmt.Store width e f) = word_uses e ++ word_uses f
stmt_uses (stmt.Ext e) = word_uses e
stmt_uses (stmt.Trap vector e) = word_uses e

abbrev pub stmts_uses : List Stmt → List Use
stmts_uses [] = []
stmts_uses (s ∷ ss) = stmt_uses s ++ stmts_uses ss

-- a tree has no blocks that end otherwise
abbrev pub end_uses : BlockEnd → List Use
end_uses (end.Go a) = []
end_uses (end.Branch t a b) = []
end_uses (end.Switch e cases) = []
end_uses end.Return = []
end_uses (end.Leave e) = word_uses e

abbrev pub block_uses : Block → List Use
block_uses b = stmts_uses b.stmts ++ end_uses b.end

abbrev pub to_uses : SetTo → List Use
to_uses (to.Expr e) = word_uses e
to_uses (to.Cond c) = cond_uses c
to_uses (to.Term t) = term_uses t

abbrev pub tree_uses_at : Tree-F (List Use) (List Use) → List Use
tree_uses_at (Tree-F.Block b) = block_uses b
tree_uses_at (Tree-F.Seq members) = joined members
tree_uses_at (Tree-F.If t a b) = term_uses t ++ (a ++ if_any b)
tree_uses_at (Tree-F.Switch n cases last) = Reads n ∷ joined cases ++ last
tree_uses_at (Tree-F.Loop a) = a
tree_uses_at (Tree-F.While t a) = term_uses t ++ a
tree_uses_at (Tree-F.DoWhile a t) = a ++ term_uses t
tree_uses_at Tree-F.Break = []
tree_uses_at (Tree-F.Set n to) = to_uses to ++ Sets n ∷ []

abbrev pub case_uses_at : TreeCase-F (List Use) (List Use) → List Use
case_uses_at c = c.body

-- a tree, and a case
abbrev pub tree_uses : Tree → List Use
tree_uses = fold-Tree (List Use) (List Use) tree_uses_at case_uses_at

abbrev pub case_uses : TreeCase → List Use
case_uses = fold-TreeCase (List Use) (List Use) tree_uses_at case_uses_at

-- ---- C

abbrev pub c_stmt_uses_at : CStmt-F (List Use) (List Use) (List Use) → List Use
c_stmt_uses_at (CStmt-F.Set n e) = word_uses e ++ Sets n ∷ []
c_stmt_uses_at (CStmt-F.Load n width e) = word_uses e ++ Sets n ∷ []
c_stmt_uses_at (CStmt-F.Store width e f) = word_uses e ++ word_uses f
c_stmt_uses_at (CStmt-F.Ext e) = word_uses e
c_stmt_uses_at (CStmt-F.Trap vector e) = word_uses e
c_stmt_uses_at (CStmt-F.If arms None) = joined arms
c_stmt_uses_at (CStmt-F.If arms (Some last)) = joined arms ++ joined last
c_stmt_uses_at (CStmt-F.Switch e groups last) = word_uses e ++ (joined groups ++ joined last)
c_stmt_uses_at (CStmt-F.Loop body) = joined body
c_stmt_uses_at (CStmt-F.While t body) = cond_uses t ++ joined body
c_stmt_uses_at (CStmt-F.DoWhile body t) = joined body ++ cond_uses t
c_stmt_uses_at CStmt-F.Break = []
c_stmt_uses_at CStmt-F.Return = []

abbrev pub c_arm_uses_at : CArm-F (List Use) (List Use) (List Use) → List Use
c_arm_uses_at a = cond_uses a.test ++ joined a.body

abbrev pub c_group_uses_at : CGroup-F (List Use) (List Use) (List Use) → List Use
c_group_uses_at g = joined g.body

-- a statement, an arm and a group
abbrev pub c_stmt_uses : CStmt → List Use
c_stmt_uses = fold-CStmt (List Use) (List Use) (List Use) c_stmt_uses_at c_arm_uses_at c_group_uses_at

abbrev pub c_arm_uses : CArm → List Use
c_arm_uses = fold-CArm (List Use) (List Use) (List Use) c_stmt_uses_at c_arm_uses_at c_group_uses_at

abbrev pub c_group_uses : CGroup → List Use
c_group_uses = fold-CGroup (List Use) (List Use) (List Use) c_stmt_uses_at c_arm_uses_at c_group_uses_at

-- statements one after another
abbrev pub c_uses : List CStmt → List Use
c_uses [] = []
c_uses (s ∷ ss) = c_stmt_uses s ++ c_uses ss
