-- Loose pairs: two Ifs one after the other that could be one.
use Rattle.std.specs.Prelude.{◌≡◌, ◌≢◌, ◌⊎◌, ℕ, ◌≤◌, Bool, true, false, length, map, All, Any, Contains, List, [], ◌∷◌, ◌++◌, Option, Some, None}
use Rattle.dream_words.specs.declared.machine.Name.{Name}
use Rattle.c_syntax.specs.declared.syntax.CCmp.{CCmp}
use Rattle.c_syntax.specs.declared.syntax.CCmp.TheVariants.{Eq}
use Rattle.c_syntax.specs.declared.syntax.CExpr.{CExpr, CExpr-F, roll-CExpr}
use Rattle.c_syntax.specs.declared.syntax.CCond.{CCond, CCond-F, roll-CCond}
use Rattle.c_syntax.specs.declared.syntax.CStmt.{CStmt, CStmt-F, fold-CStmt}
use Rattle.c_syntax.specs.declared.syntax.CArm.{CArm, CArm-F, fold-CArm}
use Rattle.c_syntax.specs.declared.syntax.CGroup.{CGroup, CGroup-F, fold-CGroup}
use Rattle.cond_terms.specs.declared.term.Lit.{Lit}
use Rattle.cond_terms.specs.declared.term.Lit.TheVariants as lit
use Rattle.cond_terms.specs.declared.term.Term.{Term, Term-F, roll-Term}
use Rattle.micro_ir.specs.declared.flow.Stmt.{Stmt}
use Rattle.micro_ir.specs.declared.flow.Stmt.TheVariants as stmt
use Rattle.micro_ir.specs.declared.flow.End.{End as BlockEnd}
use Rattle.micro_ir.specs.declared.flow.End.TheVariants as end
use Rattle.guarded.specs.declared.tree.Tree.{Tree, Tree-F, fold-Tree}
use Rattle.guarded.specs.declared.tree.TreeCase.{TreeCase, TreeCase-F, fold-TreeCase}
use Rattle.guarded.specs.Uses.{Use, joined, names_of, cond_uses, term_uses}

-- ---- lines of statements, with conditions of any kind

-- A statement of a list: an `if`, with its conditions in turn, whether it has a last `else`, and the names that its first
-- body sets; or another statement.
pub data Line (C : Type 0) : Type 0 where
  Choice : List C → Bool → List Name → Line C
  Other : Line C

-- Let a be an `if` without `else`, and b an `if` without a last `else`, directly after it. They are a loose pair where b
-- has at most 512 conditions, a's body sets no name that is read in them, and they are just a's condition, or each of them
-- clashes with it.
abbrev pub IsLoosePair : {C : Type 0} → (C → C → Type 0) → (C → List Use) → Line C → Line C → Type 0
IsLoosePair Clash reads (Choice (t ∷ []) false sets) (Choice ds false others) =
    (length ds ≤ 512)
    × ((n : Name) → Contains sets n → Contains (names_of (joined (map reads ds))) n → ⊥)
    × ((ds ≡ t ∷ []) ⊎ All (λ d. Clash t d) ds)
IsLoosePair Clash reads a b = ⊥

-- two lines of a list, one directly after the other, are a loose pair
abbrev pub AnyLoose : {C : Type 0} → (C → C → Type 0) → (C → List Use) → List (Line C) → Type 0
AnyLoose Clash reads [] = ⊥
AnyLoose Clash reads (a ∷ []) = ⊥
AnyLoose Clash reads (a ∷ b ∷ rest) = IsLoosePair Clash reads a b ⊎ AnyLoose Clash reads (b ∷ rest)

-- ---- clashes of Conds

-- The first Cond is a part of the second under `&&` at the top.
pub data IsConjunct (d : CCond) : CCond → Type 0 where
  whole : {c : CCond} → c ≡ d → IsConjunct d c
  first : {c : CCond} (s t : CCond) → c ≡ roll-CCond (CCond-F.And s t) → IsConjunct d s → IsConjunct d c
  second : {c : CCond} (s t : CCond) → c ≡ roll-CCond (CCond-F.And s t) → IsConjunct d t → IsConjunct d c

-- a comparison, and its `!`
abbrev pub compared : CCmp → CExpr → CExpr → CCond
compared op a b = roll-CCond (CCond-F.Cmp op a b)

abbrev pub not_compared : CCmp → CExpr → CExpr → CCond
not_compared op a b = roll-CCond (CCond-F.«CCond::Not» (compared op a b))

-- a comparison of a name by `==` with a number, either way round
abbrev pub IsValueTest : Name → ℕ → CCond → Type 0
IsValueTest n x c =
    (c ≡ compared Eq (roll-CExpr (CExpr-F.Name n)) (roll-CExpr (CExpr-F.Num x)))
    ⊎ (c ≡ compared Eq (roll-CExpr (CExpr-F.Num x)) (roll-CExpr (CExpr-F.Name n)))

-- A conjunct of the one is a comparison and a conjunct of the other its `!`; or both have a conjunct that compares the same
-- name with a number, and the numbers differ.
pub data CondsClash (c d : CCond) : Type 0 where
  one_is_turned : (op : CCmp) (a b : CExpr) → IsConjunct (compared op a b) c → IsConjunct (not_compared op a b) d → CondsClash c d
  other_is_turned : (op : CCmp) (a b : CExpr) → IsConjunct (not_compared op a b) c → IsConjunct (compared op a b) d → CondsClash c d
  two_values : (n : Name) (x y : ℕ) (e f : CCond) → IsConjunct e c → IsConjunct f d → IsValueTest n x e → IsValueTest n y f → x ≢ y → CondsClash c d

-- ---- clashes of terms

-- The first term is a part of the second under And at the top.
pub data IsPart (d : Term) : Term → Type 0 where
  whole : {c : Term} → c ≡ d → IsPart d c
  first : {c : Term} (s t : Term) → c ≡ roll-Term (Term-F.And s t) → IsPart d s → IsPart d c
  second : {c : Term} (s t : Term) → c ≡ roll-Term (Term-F.And s t) → IsPart d t → IsPart d c

abbrev pub lit_term : Lit → Term
lit_term l = roll-Term (Term-F.Lit l)

abbrev pub not_term : Lit → Term
not_term l = roll-Term (Term-F.Not (lit_term l))

-- the same for terms, whose comparisons are their literals
pub data TermsClash (s t : Term) : Type 0 where
  one_is_turned : (l : Lit) → IsPart (lit_term l) s → IsPart (not_term l) t → TermsClash s t
  other_is_turned : (l : Lit) → IsPart (not_term l) s → IsPart (lit_term l) t → TermsClash s t
  two_values : (v x y : ℕ) → IsPart (lit_term (lit.Eq v x)) s → IsPart (lit_term (lit.Eq v y)) t → x ≢ y → TermsClash s t

-- ---- the lists of statements of a function

-- a statement: its line, the lists of statements inside it, and the names that it sets
pub record Row : Type 0 where
  pub line : Line CCond
  pub lists : List (List (Line CCond))
  pub sets : List Name

-- an arm: its condition, its body's list and those inside, and the names that it sets
pub record ArmRow : Type 0 where
  pub test : CCond
  pub lists : List (List (Line CCond))
  pub sets : List Name

-- a group: its body's list and those inside, and the names that it sets
pub record GroupRow : Type 0 where
  pub lists : List (List (Line CCond))
  pub sets : List Name

-- statements that stand one after another, and all lists inside them
abbrev pub lines_of : List Row → List (Line CCond)
lines_of [] = []
lines_of (r ∷ rs) = r.line ∷ lines_of rs

abbrev pub lists_of : List Row → List (List (Line CCond))
lists_of [] = []
lists_of (r ∷ rs) = r.lists ++ lists_of rs

abbrev pub body_lists : List Row → List (List (Line CCond))
body_lists body = lines_of body ∷ lists_of body

abbrev pub sets_of : List Row → List Name
sets_of [] = []
sets_of (r ∷ rs) = r.sets ++ sets_of rs

abbrev pub arm_tests : List ArmRow → List CCond
arm_tests [] = []
arm_tests (a ∷ rest) = a.test ∷ arm_tests rest

abbrev pub arm_lists : List ArmRow → List (List (Line CCond))
arm_lists [] = []
arm_lists (a ∷ rest) = a.lists ++ arm_lists rest

abbrev pub arm_sets : List ArmRow → List Name
arm_sets [] = []
arm_sets (a ∷ rest) = a.sets ++ arm_sets rest

abbrev pub first_sets : List ArmRow → List Name
first_sets [] = []
first_sets (a ∷ rest) = a.sets

abbrev pub group_lists : List GroupRow → List (List (Line CCond))
group_lists [] = []
group_lists (g ∷ rest) = g.lists ++ group_lists rest

abbrev pub group_sets : List GroupRow → List Name
group_sets [] = []
group_sets (g ∷ rest) = g.sets ++ group_sets rest

-- what isn't an `if`
abbrev pub other_row : List (List (Line CCond)) → List Name → Row
other_row lists sets = record { line = Other; lists = lists; sets = sets }

abbrev pub row_at : CStmt-F Row ArmRow GroupRow → Row
row_at (CStmt-F.Set n e) = other_row [] (n ∷ [])
row_at (CStmt-F.Load n width e) = other_row [] (n ∷ [])
row_at (CStmt-F.Store width e f) = other_row [] []
row_at (CStmt-F.Ext e) = other_row [] []
row_at (CStmt-F.Trap vector e) = other_row [] []
row_at (CStmt-F.If arms None) = record { line = Choice (arm_tests arms) false (first_sets arms); lists = arm_lists arms; sets = arm_sets arms }
row_at (CStmt-F.If arms (Some last)) = record {
  line = Choice (arm_tests arms) true (first_sets arms);
  lists = arm_lists arms ++ body_lists last;
  sets = arm_sets arms ++ sets_of last;
}
row_at (CStmt-F.Switch e groups last) = other_row (group_lists groups ++ body_lists last) (group_sets groups ++ sets_of last)
row_at (CStmt-F.Loop body) = other_row (body_lists body) (sets_of body)
row_at (CStmt-F.While t body) = other_row (body_lists body) (sets_of body)
row_at (CStmt-F.DoWhile body t) = other_row (body_lists body) (sets_of body)
row_at CStmt-F.Break = other_row [] []
row_at CStmt-F.Return = other_row [] []

abbrev pub arm_row_at : CArm-F Row ArmRow GroupRow → ArmRow
arm_row_at a = record { test = a.test; lists = body_lists a.body; sets = sets_of a.body }

abbrev pub group_row_at : CGroup-F Row ArmRow GroupRow → GroupRow
group_row_at g = record { lists = body_lists g.body; sets = sets_of g.body }

abbrev pub row_of : CStmt → Row
row_of = fold-CStmt Row ArmRow GroupRow row_at arm_row_at group_row_at

abbrev pub arm_row : CArm → ArmRow
arm_row = fold-CArm Row ArmRow GroupRow row_at arm_row_at group_row_at

abbrev pub group_row : CGroup → GroupRow
group_row = fold-CGroup Row ArmRow GroupRow row_at arm_row_at group_row_at

-- some list of statements in a body, or the body itself, has a loose pair
abbrev pub HasLoosePair : List CStmt → Type 0
HasLoosePair body = Any (λ lines. AnyLoose CondsClash cond_uses lines) (body_lists (map row_of body))

-- ---- the lists of statements of a tree

-- The conditions of a tree that is an If, those of the Ifs that are directly its `else` included, and whether it has a last
-- `else`.
pub record Chain : Type 0 where
  pub tests : List Term
  pub last : Bool

-- A tree: its lines, the lists inside it, the names that it sets, and its chain where it is itself an If. Seqs are taken
-- apart. A block has a line a statement, so one without statements whose end goes on has none.
pub record TreeRow : Type 0 where
  pub lines : List (Line Term)
  pub lists : List (List (Line Term))
  pub sets : List Name
  pub chain : Option Chain

pub record CaseRow : Type 0 where
  pub lists : List (List (Line Term))
  pub sets : List Name

abbrev pub other_lines : List (Line Term) → List Name → TreeRow
other_lines lines sets = record { lines = lines; lists = []; sets = sets; chain = None }

-- a tree of one line with these lists inside
abbrev pub with_lists : List (List (Line Term)) → List Name → TreeRow
with_lists lists sets = record { lines = Other ∷ []; lists = lists; sets = sets; chain = None }

-- the list of a body, and those inside
abbrev pub tree_lists : TreeRow → List (List (Line Term))
tree_lists r = r.lines ∷ r.lists

abbrev pub stmt_lines : List Stmt → List (Line Term)
stmt_lines [] = []
stmt_lines (s ∷ ss) = Other ∷ stmt_lines ss

abbrev pub stmt_sets : Stmt → List Name
stmt_sets (stmt.Set n e) = n ∷ []
stmt_sets (stmt.Load n width e) = n ∷ []
stmt_sets (stmt.Store width e f) = []
stmt_sets (stmt.Ext e) = []
stmt_sets (stmt.Trap vector e) = []

abbrev pub stmts_sets : List Stmt → List Name
stmts_sets [] = []
stmts_sets (s ∷ ss) = stmt_sets s ++ stmts_sets ss

-- A return is a statement, and Leave is a call and a return. A tree has no blocks that end otherwise.
abbrev pub end_lines : BlockEnd → List (Line Term)
end_lines (end.Go a) = []
end_lines (end.Branch t a b) = Other ∷ []
end_lines (end.Switch e cases) = Other ∷ []
end_lines end.Return = Other ∷ []
end_lines (end.Leave e) = Other ∷ Other ∷ []

abbrev pub all_lines : List TreeRow → List (Line Term)
all_lines [] = []
all_lines (r ∷ rs) = r.lines ++ all_lines rs

abbrev pub all_lists : List TreeRow → List (List (Line Term))
all_lists [] = []
all_lists (r ∷ rs) = r.lists ++ all_lists rs

abbrev pub all_sets : List TreeRow → List Name
all_sets [] = []
all_sets (r ∷ rs) = r.sets ++ all_sets rs

abbrev pub case_lists : List CaseRow → List (List (Line Term))
case_lists [] = []
case_lists (c ∷ rest) = c.lists ++ case_lists rest

abbrev pub case_sets : List CaseRow → List Name
case_sets [] = []
case_sets (c ∷ rest) = c.sets ++ case_sets rest

-- the other tree of an If: an If goes on with its tests, anything else is a last `else`
abbrev pub else_chain : Option Chain → Chain
else_chain None = record { tests = []; last = true }
else_chain (Some c) = c

abbrev pub else_lists : Option Chain → TreeRow → List (List (Line Term))
else_lists None r = tree_lists r
else_lists (Some c) r = r.lists

-- an If
abbrev pub choice_row : Term → TreeRow → Chain → List (List (Line Term)) → List Name → TreeRow
choice_row t a rest lists sets = record {
  lines = Choice (t ∷ rest.tests) rest.last a.sets ∷ [];
  lists = tree_lists a ++ lists;
  sets = a.sets ++ sets;
  chain = Some (record { tests = t ∷ rest.tests; last = rest.last });
}

abbrev pub tree_row_at : Tree-F TreeRow CaseRow → TreeRow
tree_row_at (Tree-F.Block b) = other_lines (stmt_lines b.stmts ++ end_lines b.end) (stmts_sets b.stmts)
tree_row_at (Tree-F.Seq members) = record { lines = all_lines members; lists = all_lists members; sets = all_sets members; chain = None }
tree_row_at (Tree-F.If t a None) = choice_row t a (record { tests = []; last = false }) [] []
tree_row_at (Tree-F.If t a (Some b)) = choice_row t a (else_chain b.chain) (else_lists b.chain b) b.sets
tree_row_at (Tree-F.Switch n cases last) = with_lists (case_lists cases ++ tree_lists last) (case_sets cases ++ last.sets)
tree_row_at (Tree-F.Loop a) = with_lists (tree_lists a) a.sets
tree_row_at (Tree-F.While t a) = with_lists (tree_lists a) a.sets
tree_row_at (Tree-F.DoWhile a t) = with_lists (tree_lists a) a.sets
tree_row_at Tree-F.Break = with_lists [] []
tree_row_at (Tree-F.Set n to) = with_lists [] (n ∷ [])

abbrev pub case_row_at : TreeCase-F TreeRow CaseRow → CaseRow
case_row_at c = record { lists = tree_lists c.body; sets = c.body.sets }

abbrev pub tree_row : Tree → TreeRow
tree_row = fold-Tree TreeRow CaseRow tree_row_at case_row_at

abbrev pub case_row : TreeCase → CaseRow
case_row = fold-TreeCase TreeRow CaseRow tree_row_at case_row_at

-- some list of statements in a tree has a loose pair
abbrev pub TreeHasLoosePair : Tree → Type 0
TreeHasLoosePair t = Any (λ lines. AnyLoose TermsClash term_uses lines) (tree_lists (tree_row t))
