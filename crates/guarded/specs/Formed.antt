-- Which trees are well formed: those that are printed as a well-formed function.
use Rattle.std.specs.Prelude.{ℕ, ◌+◌, ◌-◌, ◌^◌, ◌≤◌, max, Bool, true, false, not, ◌&&◌, nat_lt, nat_le, IsTrue, List, [], ◌∷◌, Option, Some, None}
use Rattle.dream_words.specs.declared.machine.Name.{Name}
use Rattle.dream_words.specs.declared.machine.Name.TheVariants as name
use Rattle.c_syntax.specs.declared.syntax.CExpr.{CExpr, CExpr-F, fold-CExpr}
use Rattle.c_syntax.specs.declared.syntax.CCond.{CCond, fold-CCond}
use Rattle.c_syntax.specs.Depth.{word_depth, cond_depth, deepest}
use Rattle.c_syntax.specs.Formed.{is_word, is_base, are_distinct, are_words, has_any, cond_names, Allowed, all, GroupAllowed, groups_values, all_groups}
use Rattle.cond_terms.specs.declared.term.Lit.{Lit}
use Rattle.cond_terms.specs.declared.term.Lit.TheVariants as lit
use Rattle.cond_terms.specs.declared.term.Term.{Term, Term-F, fold-Term}
use Rattle.micro_ir.specs.declared.flow.Stmt.{Stmt}
use Rattle.micro_ir.specs.declared.flow.Stmt.TheVariants as stmt
use Rattle.micro_ir.specs.declared.flow.End.{End as BlockEnd}
use Rattle.micro_ir.specs.declared.flow.End.TheVariants as end
use Rattle.micro_ir.specs.declared.flow.Block.{Block}
use Rattle.guarded.specs.declared.tree.SetTo.{SetTo}
use Rattle.guarded.specs.declared.tree.SetTo.TheVariants as to
use Rattle.guarded.specs.declared.tree.Tree.{Tree, Tree-F, fold-Tree}
use Rattle.guarded.specs.declared.tree.TreeCase.{TreeCase, TreeCase-F, fold-TreeCase}
use Rattle.guarded.specs.Uses.{names_of, tree_uses}

-- ---- names

-- A name that a text can have: one of the eight registers, of the five flags, a base of a segment, or a local, whose
-- numbers go up to 4,294,967,294.
abbrev pub is_text_name : Name → Bool
is_text_name (name.Reg n) = nat_lt n 8
is_text_name (name.Flag n) = nat_lt n 5
is_text_name name.Fs = true
is_text_name name.Gs = true
is_text_name (name.T n) = nat_lt n (2 ^ 32 - 1)
is_text_name (name.B n) = nat_lt n (2 ^ 32 - 1)
is_text_name (name.S n) = nat_lt n (2 ^ 32 - 1)

-- each name is one that a text can have
abbrev pub are_text_names : List Name → Bool
are_text_names [] = true
are_text_names (n ∷ ns) = is_text_name n && are_text_names ns

-- ---- Words, Conds and terms

-- every number is a word
abbrev pub word_numbers : CExpr-F Bool Bool → Bool
word_numbers (CExpr-F.Num n) = is_word n
word_numbers (CExpr-F.Name n) = true
word_numbers (CExpr-F.«CExpr::Not» a) = a
word_numbers (CExpr-F.Bin op a b) = a && b
word_numbers (CExpr-F.Fn1 g a) = a
word_numbers (CExpr-F.Fn2 g a b) = a && b
word_numbers (CExpr-F.Fn3 g a b c) = a && (b && c)
word_numbers (CExpr-F.Pick c a b) = c && (a && b)

abbrev pub numbers_word : CExpr → Bool
numbers_word = fold-CExpr Bool Bool cond_names word_numbers

abbrev pub numbers_cond : CCond → Bool
numbers_cond = fold-CCond Bool Bool cond_names word_numbers

abbrev pub lit_numbers : Lit → Bool
lit_numbers (lit.Bool v) = true
lit_numbers (lit.Eq v x) = is_word x

abbrev pub term_numbers : Term-F Bool → Bool
term_numbers Term-F.True = true
term_numbers Term-F.False = true
term_numbers (Term-F.Lit l) = lit_numbers l
term_numbers (Term-F.Not t) = t
term_numbers (Term-F.And s t) = s && t
term_numbers (Term-F.Or s t) = s && t

abbrev pub numbers_term : Term → Bool
numbers_term = fold-Term Bool term_numbers

-- How many Words and Conds stand one in another where a term is printed: a literal is a comparison of two Words, True and
-- False are an `||` of two comparisons.
abbrev pub term_depth_at : Term-F ℕ → ℕ
term_depth_at Term-F.True = 3
term_depth_at Term-F.False = 3
term_depth_at (Term-F.Lit l) = 2
term_depth_at (Term-F.Not t) = t + 1
term_depth_at (Term-F.And s t) = max s t + 1
term_depth_at (Term-F.Or s t) = max s t + 1

abbrev pub term_depth : Term → ℕ
term_depth = fold-Term ℕ term_depth_at

-- a condition that is printed as a Word, `(c ? 0x1u : 0x0u)`
abbrev pub picked_depth : ℕ → ℕ
picked_depth d = max d 1 + 1

-- at most 256 deep, with numbers that are words
abbrev pub word_fits : CExpr → Bool
word_fits e = numbers_word e && nat_le (word_depth e) 256

abbrev pub term_fits : Term → Bool
term_fits t = numbers_term t && nat_le (term_depth t) 256

abbrev pub to_fits : SetTo → Bool
to_fits (to.Expr e) = word_fits e
to_fits (to.Cond c) = numbers_cond c && nat_le (picked_depth (cond_depth c)) 256
to_fits (to.Term t) = numbers_term t && nat_le (picked_depth (term_depth t)) 256

-- ---- trees

-- a statement of a block; no base is set
abbrev pub stmt_allowed : Stmt → Bool
stmt_allowed (stmt.Set n e) = not (is_base n) && word_fits e
stmt_allowed (stmt.Load n width e) = not (is_base n) && word_fits e
stmt_allowed (stmt.Store width e f) = word_fits e && word_fits f
stmt_allowed (stmt.Ext e) = word_fits e
stmt_allowed (stmt.Trap vector e) = is_word vector && word_fits e

abbrev pub stmts_allowed : List Stmt → Bool
stmts_allowed [] = true
stmts_allowed (s ∷ ss) = stmt_allowed s && stmts_allowed ss

-- a block ends in Go, Return or Leave
abbrev pub end_allowed : BlockEnd → Bool
end_allowed (end.Go a) = true
end_allowed (end.Branch t a b) = false
end_allowed (end.Switch e cases) = false
end_allowed end.Return = true
end_allowed (end.Leave e) = word_fits e

abbrev pub block_allowed : Block → Bool
block_allowed b = stmts_allowed b.stmts && end_allowed b.end

-- the other tree of an If, which may be missing
abbrev pub else_allowed : Option Allowed → Allowed
else_allowed None breakable = true
else_allowed (Some a) breakable = a breakable

-- A tree, where `breakable` says that a loop or a Switch stands round it. The values of a Switch are distinct, and each of
-- its cases has at least one. A Break stands only inside a loop or a Switch.
abbrev pub tree_at : Tree-F Allowed GroupAllowed → Allowed
tree_at (Tree-F.Block b) breakable = block_allowed b
tree_at (Tree-F.Seq members) breakable = all members breakable
tree_at (Tree-F.If t a b) breakable = term_fits t && (a breakable && else_allowed b breakable)
tree_at (Tree-F.Switch n cases last) breakable = all_groups cases && (are_distinct (groups_values cases) && last true)
tree_at (Tree-F.Loop a) breakable = a true
tree_at (Tree-F.While t a) breakable = term_fits t && a true
tree_at (Tree-F.DoWhile a t) breakable = a true && term_fits t
tree_at Tree-F.Break breakable = breakable
tree_at (Tree-F.Set n to) breakable = not (is_base n) && to_fits to

-- a case: its values, and whether it is allowed
abbrev pub case_at : TreeCase-F Allowed GroupAllowed → GroupAllowed
case_at c = (c.values, has_any c.values && (are_words c.values && c.body true))

abbrev pub tree_allowed : Tree → Allowed
tree_allowed = fold-Tree Allowed GroupAllowed tree_at case_at

abbrev pub case_allowed : TreeCase → GroupAllowed
case_allowed = fold-TreeCase Allowed GroupAllowed tree_at case_at

-- ---- nesting

-- How many Bodies of the printed statements stand one in another: among the statements themselves, and where they are the
-- `else` of an `if`.
pub record Bodies : Type 0 where
  pub alone : ℕ
  pub as_else : ℕ

-- what isn't an If has a Body of its own where it is an `else`
abbrev pub bodies : ℕ → Bodies
bodies d = record { alone = d; as_else = d + 1 }

-- the deepest of several, alone
abbrev pub deepest_alone : List Bodies → ℕ
deepest_alone [] = 0
deepest_alone (d ∷ ds) = max d.alone (deepest_alone ds)

-- the other tree of an If
abbrev pub else_bodies : Option Bodies → ℕ
else_bodies None = 0
else_bodies (Some d) = d.as_else

-- the Body of an If, and its `else`
abbrev pub if_bodies : Bodies → Option Bodies → ℕ
if_bodies a b = max (a.alone + 1) (else_bodies b)

-- An If that is directly the `else` of another adds no Body: it is printed as `else if`.
abbrev pub bodies_at : Tree-F Bodies ℕ → Bodies
bodies_at (Tree-F.Block b) = bodies 0
bodies_at (Tree-F.Seq members) = bodies (deepest_alone members)
bodies_at (Tree-F.If t a b) = record { alone = if_bodies a b; as_else = if_bodies a b }
bodies_at (Tree-F.Switch n cases last) = bodies (max (deepest cases) (last.alone + 1))
bodies_at (Tree-F.Loop a) = bodies (a.alone + 1)
bodies_at (Tree-F.While t a) = bodies (a.alone + 1)
bodies_at (Tree-F.DoWhile a t) = bodies (a.alone + 1)
bodies_at Tree-F.Break = bodies 0
bodies_at (Tree-F.Set n to) = bodies 0

abbrev pub case_bodies_at : TreeCase-F Bodies ℕ → ℕ
case_bodies_at c = c.body.alone + 1

abbrev pub tree_bodies : Tree → Bodies
tree_bodies = fold-Tree Bodies ℕ bodies_at case_bodies_at

abbrev pub case_bodies : TreeCase → ℕ
case_bodies = fold-TreeCase Bodies ℕ bodies_at case_bodies_at

-- A tree is well formed: each part is allowed, every name is one that a text can have, and no more than 512 Bodies stand
-- one in another.
pub record IsWellFormed (t : Tree) : Type 0 where
  pub allowed : IsTrue (tree_allowed t false)
  pub names : IsTrue (are_text_names (names_of (tree_uses t)))
  pub depth : (tree_bodies t).alone ≤ 512
