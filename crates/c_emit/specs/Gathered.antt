-- The locals after those of a part are taken in, in the order in which they stand there.
use Rattle.std.specs.Prelude.{List, [], ◌∷◌, Option, Some, None}
use Rattle.dream_words.specs.declared.machine.Name.TheVariants as name
use Rattle.c_syntax.specs.declared.syntax.CExpr.{CExpr, CExpr-F, fold-CExpr}
use Rattle.c_syntax.specs.declared.syntax.CCond.{CCond, CCond-F, fold-CCond}
use Rattle.cond_terms.specs.declared.term.Lit.{Lit}
use Rattle.cond_terms.specs.declared.term.Lit.TheVariants as lit
use Rattle.cond_terms.specs.declared.term.Term.{Term, Term-F, fold-Term}
use Rattle.micro_ir.specs.declared.flow.Stmt.{Stmt}
use Rattle.micro_ir.specs.declared.flow.Stmt.TheVariants as stmt
use Rattle.micro_ir.specs.declared.flow.End.{End as BlockEnd}
use Rattle.micro_ir.specs.declared.flow.End.TheVariants as end
use Rattle.micro_ir.specs.declared.flow.Block.{Block}
use Rattle.guarded.specs.declared.tree.SetTo.{SetTo}
use Rattle.guarded.specs.declared.tree.SetTo.TheVariants as to
use Rattle.guarded.specs.declared.tree.Tree.{Tree, Tree-F, fold-Tree}
use Rattle.guarded.specs.declared.tree.TreeCase.{TreeCase, TreeCase-F, fold-TreeCase}
use Rattle.guarded.specs.Numbers.{Locals, with_local}

-- from the locals so far to those after a part
abbrev pub Step : Type 0
Step = Locals → Locals

-- parts one after another
abbrev pub all_in : List Step → Step
all_in [] l = l
all_in (g ∷ gs) l = all_in gs (g l)

abbrev pub word_at : CExpr-F Step Step → Step
word_at (CExpr-F.Num n) l = l
word_at (CExpr-F.Name n) l = with_local l n
word_at (CExpr-F.«CExpr::Not» a) l = a l
word_at (CExpr-F.Bin op a b) l = b (a l)
word_at (CExpr-F.Fn1 g a) l = a l
word_at (CExpr-F.Fn2 g a b) l = b (a l)
word_at (CExpr-F.Fn3 g a b c) l = c (b (a l))
word_at (CExpr-F.Pick t a b) l = b (a (t l))

abbrev pub cond_at : CCond-F Step Step → Step
cond_at (CCond-F.Cmp op a b) l = b (a l)
cond_at (CCond-F.«CCond::Not» t) l = t l
cond_at (CCond-F.And t u) l = u (t l)
cond_at (CCond-F.Or t u) l = u (t l)

abbrev pub with_word : CExpr → Step
with_word = fold-CExpr Step Step cond_at word_at

abbrev pub with_cond : CCond → Step
with_cond = fold-CCond Step Step cond_at word_at

abbrev pub with_lit : Lit → Step
with_lit (lit.Bool v) l = with_local l (name.B v)
with_lit (lit.Eq v x) l = with_local l (name.B v)

abbrev pub term_at : Term-F Step → Step
term_at Term-F.True l = l
term_at Term-F.False l = l
term_at (Term-F.Lit t) l = with_lit t l
term_at (Term-F.Not t) l = t l
term_at (Term-F.And s t) l = t (s l)
term_at (Term-F.Or s t) l = t (s l)

abbrev pub with_term : Term → Step
with_term = fold-Term Step term_at

abbrev pub with_stmt : Stmt → Step
with_stmt (stmt.Set n e) l = with_local (with_word e l) n
with_stmt (stmt.Load n width e) l = with_local (with_word e l) n
with_stmt (stmt.Store width e f) l = with_word f (with_word e l)
with_stmt (stmt.Ext e) l = with_word e l
with_stmt (stmt.Trap vector e) l = with_word e l

abbrev pub with_stmts : List Stmt → Step
with_stmts [] l = l
with_stmts (s ∷ ss) l = with_stmts ss (with_stmt s l)

abbrev pub with_end : BlockEnd → Step
with_end (end.Go a) l = l
with_end (end.Branch t a b) l = l
with_end (end.Switch e cases) l = l
with_end end.Return l = l
with_end (end.Leave e) l = with_word e l

abbrev pub with_block : Block → Step
with_block b l = with_end b.end (with_stmts b.stmts l)

abbrev pub with_to : SetTo → Step
with_to (to.Expr e) l = with_word e l
with_to (to.Cond c) l = with_cond c l
with_to (to.Term t) l = with_term t l

-- the other tree of an If
abbrev pub with_else : Option Step → Step
with_else None l = l
with_else (Some b) l = b l

abbrev pub tree_at : Tree-F Step Step → Step
tree_at (Tree-F.Block b) l = with_block b l
tree_at (Tree-F.Seq members) l = all_in members l
tree_at (Tree-F.If t a b) l = with_else b (a (with_term t l))
tree_at (Tree-F.Switch n cases last) l = last (all_in cases (with_local l n))
tree_at (Tree-F.Loop a) l = a l
tree_at (Tree-F.While t a) l = a (with_term t l)
tree_at (Tree-F.DoWhile a t) l = with_term t (a l)
tree_at Tree-F.Break l = l
tree_at (Tree-F.Set n to) l = with_local (with_to to l) n

abbrev pub case_at : TreeCase-F Step Step → Step
case_at c = c.body

abbrev pub with_tree : Tree → Step
with_tree = fold-Tree Step Step tree_at case_at

abbrev pub with_case : TreeCase → Step
with_case = fold-TreeCase Step Step tree_at case_at
