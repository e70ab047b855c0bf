-- The function that a tree is printed as.
use Rattle.std.specs.Prelude.{ℕ, ◌+◌, ◌-◌, ◌^◌, min, nat_lt, if◌then◌else◌, length, map, List, [], ◌∷◌, ◌++◌, Option, Some, None}
use Rattle.dream_words.specs.declared.machine.Name.{Name}
use Rattle.dream_words.specs.declared.machine.Name.TheVariants as name
use Rattle.c_syntax.specs.declared.syntax.CBin.TheVariants.{Shl}
use Rattle.c_syntax.specs.declared.syntax.CCmp.TheVariants.{Eq, Ne}
use Rattle.c_syntax.specs.declared.syntax.CExpr.{CExpr, CExpr-F, roll-CExpr, fold-CExpr}
use Rattle.c_syntax.specs.declared.syntax.CCond.{CCond, CCond-F, roll-CCond, fold-CCond}
use Rattle.c_syntax.specs.declared.syntax.CStmt.{CStmt, CStmt-F, roll-CStmt}
use Rattle.c_syntax.specs.declared.syntax.CArm.{CArm, roll-CArm}
use Rattle.c_syntax.specs.declared.syntax.CGroup.{CGroup, roll-CGroup}
use Rattle.c_syntax.specs.declared.syntax.CFun.{CFun}
use Rattle.c_words.specs.Built as built
use Rattle.cond_terms.specs.declared.term.Lit.{Lit}
use Rattle.cond_terms.specs.declared.term.Lit.TheVariants as lit
use Rattle.cond_terms.specs.declared.term.Term.{Term, Term-F, fold-Term}
use Rattle.micro_ir.specs.declared.flow.Stmt.{Stmt}
use Rattle.micro_ir.specs.declared.flow.Stmt.TheVariants as stmt
use Rattle.micro_ir.specs.declared.flow.End.{End as BlockEnd}
use Rattle.micro_ir.specs.declared.flow.End.TheVariants as end
use Rattle.micro_ir.specs.declared.flow.Block.{Block}
use Rattle.guarded.specs.declared.tree.SetTo.{SetTo}
use Rattle.guarded.specs.declared.tree.SetTo.TheVariants as to
use Rattle.guarded.specs.declared.tree.Tree.{Tree, Tree-F, fold-Tree}
use Rattle.guarded.specs.declared.tree.TreeCase.{TreeCase, TreeCase-F, fold-TreeCase}
use Rattle.guarded.specs.Uses.{names_of, tree_uses}
use Rattle.guarded.specs.Numbers.{Locals, locals_of}

-- ---- new numbers

-- how many numbers are below one
abbrev pub below : List ℕ → ℕ → ℕ
below [] n = 0
below (k ∷ ks) n = if nat_lt k n then below ks n + 1 else below ks n

-- Each kind of local is renumbered from 0, in the order of its numbers.
abbrev pub new_name : Locals → Name → Name
new_name l (name.Reg n) = name.Reg n
new_name l (name.Flag n) = name.Flag n
new_name l name.Fs = name.Fs
new_name l name.Gs = name.Gs
new_name l (name.T n) = name.T (below l.temps n)
new_name l (name.B n) = name.B (below l.bools n)
new_name l (name.S n) = name.S (below l.selectors n)

-- ---- Words and Conds, with new names

abbrev pub renamed_word_at : (Name → Name) → CExpr-F CCond CExpr → CExpr
renamed_word_at f (CExpr-F.Num n) = roll-CExpr (CExpr-F.Num n)
renamed_word_at f (CExpr-F.Name n) = roll-CExpr (CExpr-F.Name (f n))
renamed_word_at f (CExpr-F.«CExpr::Not» a) = roll-CExpr (CExpr-F.«CExpr::Not» a)
renamed_word_at f (CExpr-F.Bin op a b) = roll-CExpr (CExpr-F.Bin op a b)
renamed_word_at f (CExpr-F.Fn1 g a) = roll-CExpr (CExpr-F.Fn1 g a)
renamed_word_at f (CExpr-F.Fn2 g a b) = roll-CExpr (CExpr-F.Fn2 g a b)
renamed_word_at f (CExpr-F.Fn3 g a b c) = roll-CExpr (CExpr-F.Fn3 g a b c)
renamed_word_at f (CExpr-F.Pick t a b) = roll-CExpr (CExpr-F.Pick t a b)

abbrev pub renamed_cond_at : CCond-F CCond CExpr → CCond
renamed_cond_at (CCond-F.Cmp op a b) = roll-CCond (CCond-F.Cmp op a b)
renamed_cond_at (CCond-F.«CCond::Not» t) = roll-CCond (CCond-F.«CCond::Not» t)
renamed_cond_at (CCond-F.And t u) = roll-CCond (CCond-F.And t u)
renamed_cond_at (CCond-F.Or t u) = roll-CCond (CCond-F.Or t u)

abbrev pub renamed_word : (Name → Name) → CExpr → CExpr
renamed_word f = fold-CExpr CCond CExpr renamed_cond_at (renamed_word_at f)

abbrev pub renamed_cond : (Name → Name) → CCond → CCond
renamed_cond f = fold-CCond CCond CExpr renamed_cond_at (renamed_word_at f)

-- ---- terms

-- `((0x0u == 0x0u) || (0x0u == 0x0u))`
abbrev pub always_cond : CCond
always_cond = built.or (built.cmp Eq (built.num 0) (built.num 0)) (built.cmp Eq (built.num 0) (built.num 0))

-- `((0x0u != 0x0u) || (0x0u != 0x0u))`
abbrev pub never_cond : CCond
never_cond = built.or (built.cmp Ne (built.num 0) (built.num 0)) (built.cmp Ne (built.num 0) (built.num 0))

-- a variable is the local for tests of its number: `(b0 != 0x0u)`, `(b0 == 0x5u)`
abbrev pub lit_cond : (Name → Name) → Lit → CCond
lit_cond f (lit.Bool v) = built.cmp Ne (built.name (f (name.B v))) (built.num 0)
lit_cond f (lit.Eq v x) = built.cmp Eq (built.name (f (name.B v))) (built.num x)

abbrev pub term_cond_at : (Name → Name) → Term-F CCond → CCond
term_cond_at f Term-F.True = always_cond
term_cond_at f Term-F.False = never_cond
term_cond_at f (Term-F.Lit l) = lit_cond f l
term_cond_at f (Term-F.Not t) = built.cond_not t
term_cond_at f (Term-F.And s t) = built.and s t
term_cond_at f (Term-F.Or s t) = built.or s t

-- the Cond of a term
abbrev pub term_cond : (Name → Name) → Term → CCond
term_cond f = fold-Term CCond (term_cond_at f)

-- what a name is set to: of a condition and of a term `(c ? 0x1u : 0x0u)`
abbrev pub word_to : (Name → Name) → SetTo → CExpr
word_to f (to.Expr e) = renamed_word f e
word_to f (to.Cond c) = built.word_if (renamed_cond f c)
word_to f (to.Term t) = built.word_if (term_cond f t)

-- ---- blocks

abbrev pub stmt_of : (Name → Name) → Stmt → CStmt
stmt_of f (stmt.Set n e) = roll-CStmt (CStmt-F.Set (f n) (renamed_word f e))
stmt_of f (stmt.Load n width e) = roll-CStmt (CStmt-F.Load (f n) width (renamed_word f e))
stmt_of f (stmt.Store width e v) = roll-CStmt (CStmt-F.Store width (renamed_word f e) (renamed_word f v))
stmt_of f (stmt.Ext e) = roll-CStmt (CStmt-F.Ext (renamed_word f e))
stmt_of f (stmt.Trap vector e) = roll-CStmt (CStmt-F.Trap vector (renamed_word f e))

-- a statement that is stuck, `trap(0x0u, (0x0u << 0x20u));`
abbrev pub stuck_stmt : CStmt
stuck_stmt = roll-CStmt (CStmt-F.Trap 0 (built.bin Shl (built.num 0) (built.num 32)))

-- Go leads to what follows, Return returns, and Leave is a call and a return. Blocks of a tree have no other ends, and where
-- one had it would be stuck.
abbrev pub end_stmts : (Name → Name) → BlockEnd → List CStmt
end_stmts f (end.Go a) = []
end_stmts f (end.Branch t a b) = stuck_stmt ∷ []
end_stmts f (end.Switch e cases) = stuck_stmt ∷ []
end_stmts f end.Return = roll-CStmt CStmt-F.Return ∷ []
end_stmts f (end.Leave e) = roll-CStmt (CStmt-F.Ext (renamed_word f e)) ∷ roll-CStmt CStmt-F.Return ∷ []

abbrev pub block_stmts : (Name → Name) → Block → List CStmt
block_stmts f b = map (stmt_of f) b.stmts ++ end_stmts f b.end

-- ---- trees

-- The arms of an `if`, and its last `else`.
pub record Chain : Type 0 where
  pub arms : List CArm
  pub last : Option (List CStmt)

-- A tree is printed as statements. Where it is an If, it goes on with these arms if it is directly the `else` of another.
pub record Printed : Type 0 where
  pub stmts : List CStmt
  pub chain : Option Chain

-- what isn't an If
abbrev pub plainly : List CStmt → Printed
plainly stmts = record { stmts = stmts; chain = None }

-- trees one after another
abbrev pub all_stmts : List Printed → List CStmt
all_stmts [] = []
all_stmts (p ∷ ps) = p.stmts ++ all_stmts ps

abbrev pub arm_of : CCond → List CStmt → CArm
arm_of t body = roll-CArm (record { test = t; body = body })

-- what stands in an `else`: an If goes on as `else if`, anything else is the last `else`
abbrev pub goes_on : Option Chain → List CStmt → Chain
goes_on None stmts = record { arms = []; last = Some stmts }
goes_on (Some c) stmts = c

abbrev pub else_chain : Option Printed → Chain
else_chain None = record { arms = []; last = None }
else_chain (Some b) = goes_on b.chain b.stmts

abbrev pub if_chain : CCond → List CStmt → Chain → Chain
if_chain t body rest = record { arms = arm_of t body ∷ rest.arms; last = rest.last }

abbrev pub if_printed : Chain → Printed
if_printed c = record { stmts = roll-CStmt (CStmt-F.If c.arms c.last) ∷ []; chain = Some c }

abbrev pub printed_at : (Name → Name) → Tree-F Printed CGroup → Printed
printed_at f (Tree-F.Block b) = plainly (block_stmts f b)
printed_at f (Tree-F.Seq members) = plainly (all_stmts members)
printed_at f (Tree-F.If t a b) = if_printed (if_chain (term_cond f t) a.stmts (else_chain b))
printed_at f (Tree-F.Switch n cases last) = plainly (roll-CStmt (CStmt-F.Switch (built.name (f n)) cases last.stmts) ∷ [])
printed_at f (Tree-F.Loop a) = plainly (roll-CStmt (CStmt-F.Loop a.stmts) ∷ [])
printed_at f (Tree-F.While t a) = plainly (roll-CStmt (CStmt-F.While (term_cond f t) a.stmts) ∷ [])
printed_at f (Tree-F.DoWhile a t) = plainly (roll-CStmt (CStmt-F.DoWhile a.stmts (term_cond f t)) ∷ [])
printed_at f Tree-F.Break = plainly (roll-CStmt CStmt-F.Break ∷ [])
printed_at f (Tree-F.Set n to) = plainly (roll-CStmt (CStmt-F.Set (f n) (word_to f to)) ∷ [])

abbrev pub case_printed_at : TreeCase-F Printed CGroup → CGroup
case_printed_at c = roll-CGroup (record { values = c.values; body = c.body.stmts })

abbrev pub printed : (Name → Name) → Tree → Printed
printed f = fold-Tree Printed CGroup (printed_at f) case_printed_at

abbrev pub case_printed : (Name → Name) → TreeCase → CGroup
case_printed f = fold-TreeCase Printed CGroup (printed_at f) case_printed_at

-- the arms of the Ifs that are directly an `else`, and the last `else`
abbrev pub rest_printed : (Name → Name) → Option Tree → Chain
rest_printed f None = else_chain None
rest_printed f (Some b) = else_chain (Some (printed f b))

-- ---- functions

-- how many locals of a kind are declared; no function declares 2^32 or more
abbrev pub declared : List ℕ → ℕ
declared ks = min (length ks) (2 ^ 32 - 1)

abbrev pub emitted_with : Locals → Tree → ℕ → CFun
emitted_with l t address = record {
  address = address;
  temps = declared l.temps;
  bools = declared l.bools;
  selectors = declared l.selectors;
  body = (printed (new_name l) t).stmts;
}

-- the function of a tree: its locals are those that stand in it
abbrev pub emitted : Tree → ℕ → CFun
emitted t address = emitted_with (locals_of (names_of (tree_uses t))) t address
