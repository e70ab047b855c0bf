-- What each definition over terms and trees gives at a layer: the layer's own clause, at what it gives for the parts.
use Rattle.std.proofs.Common.{◌≡◌, ℕ, Bool, List}
use Rattle.cond_terms.specs.declared.term.Term as term
use Rattle.cond_terms.specs.declared.term.Term.{Term, Term-F, roll-Term}
use Rattle.c_syntax.specs.Run.{Part}
use Rattle.c_syntax.specs.Formed.{Allowed, GroupAllowed}
use Rattle.guarded.specs.declared.tree.Tree as tree
use Rattle.guarded.specs.declared.tree.Tree.{Tree, Tree-F, roll-Tree}
use Rattle.guarded.specs.declared.tree.TreeCase as case
use Rattle.guarded.specs.declared.tree.TreeCase.{TreeCase, TreeCase-F, roll-TreeCase}
use Rattle.guarded.specs.Run as runs
use Rattle.guarded.specs.Run.{tree_does, case_does}
use Rattle.guarded.specs.Uses as uses
use Rattle.guarded.specs.Uses.{Use, term_uses, tree_uses, case_uses}
use Rattle.guarded.specs.Formed as formed
use Rattle.guarded.specs.Formed.{Bodies, numbers_term, term_depth, tree_allowed, case_allowed, tree_bodies, case_bodies}
use Rattle.guarded.specs.Counts as counts
use Rattle.guarded.specs.Counts.{Weights, tree_count, case_count}
use Rattle.guarded.specs.Loose as loose
use Rattle.guarded.specs.Loose.{TreeRow, CaseRow, tree_row, case_row}

pub does_layer : (y : Tree-F Tree TreeCase) → tree_does (roll-Tree y) ≡ runs.tree_at (tree.map-Tree Tree TreeCase Part (List ℕ × Part) tree_does case_does y)
does_layer y = tree.fold-roll-Tree Part (List ℕ × Part) runs.tree_at runs.case_at y

pub case_does_layer : (y : TreeCase-F Tree TreeCase) → case_does (roll-TreeCase y) ≡ runs.case_at (case.map-TreeCase Tree TreeCase Part (List ℕ × Part) tree_does case_does y)
case_does_layer y = case.fold-roll-TreeCase Part (List ℕ × Part) runs.tree_at runs.case_at y

pub term_uses_layer : (y : Term-F Term) → term_uses (roll-Term y) ≡ uses.term_uses_at (term.map-Term Term (List Use) term_uses y)
term_uses_layer y = term.fold-roll-Term (List Use) uses.term_uses_at y

pub uses_layer : (y : Tree-F Tree TreeCase) → tree_uses (roll-Tree y) ≡ uses.tree_uses_at (tree.map-Tree Tree TreeCase (List Use) (List Use) tree_uses case_uses y)
uses_layer y = tree.fold-roll-Tree (List Use) (List Use) uses.tree_uses_at uses.case_uses_at y

pub case_uses_layer : (y : TreeCase-F Tree TreeCase) → case_uses (roll-TreeCase y) ≡ uses.case_uses_at (case.map-TreeCase Tree TreeCase (List Use) (List Use) tree_uses case_uses y)
case_uses_layer y = case.fold-roll-TreeCase (List Use) (List Use) uses.tree_uses_at uses.case_uses_at y

pub numbers_term_layer : (y : Term-F Term) → numbers_term (roll-Term y) ≡ formed.term_numbers (term.map-Term Term Bool numbers_term y)
numbers_term_layer y = term.fold-roll-Term Bool formed.term_numbers y

pub term_depth_layer : (y : Term-F Term) → term_depth (roll-Term y) ≡ formed.term_depth_at (term.map-Term Term ℕ term_depth y)
term_depth_layer y = term.fold-roll-Term ℕ formed.term_depth_at y

pub allowed_layer : (y : Tree-F Tree TreeCase) → tree_allowed (roll-Tree y) ≡ formed.tree_at (tree.map-Tree Tree TreeCase Allowed GroupAllowed tree_allowed case_allowed y)
allowed_layer y = tree.fold-roll-Tree Allowed GroupAllowed formed.tree_at formed.case_at y

pub case_allowed_layer : (y : TreeCase-F Tree TreeCase) → case_allowed (roll-TreeCase y) ≡ formed.case_at (case.map-TreeCase Tree TreeCase Allowed GroupAllowed tree_allowed case_allowed y)
case_allowed_layer y = case.fold-roll-TreeCase Allowed GroupAllowed formed.tree_at formed.case_at y

pub bodies_layer : (y : Tree-F Tree TreeCase) → tree_bodies (roll-Tree y) ≡ formed.bodies_at (tree.map-Tree Tree TreeCase Bodies ℕ tree_bodies case_bodies y)
bodies_layer y = tree.fold-roll-Tree Bodies ℕ formed.bodies_at formed.case_bodies_at y

pub case_bodies_layer : (y : TreeCase-F Tree TreeCase) → case_bodies (roll-TreeCase y) ≡ formed.case_bodies_at (case.map-TreeCase Tree TreeCase Bodies ℕ tree_bodies case_bodies y)
case_bodies_layer y = case.fold-roll-TreeCase Bodies ℕ formed.bodies_at formed.case_bodies_at y

pub count_layer : (w : Weights) (y : Tree-F Tree TreeCase) → tree_count w (roll-Tree y) ≡ counts.tree_count_at w (tree.map-Tree Tree TreeCase ℕ ℕ (tree_count w) (case_count w) y)
count_layer w y = tree.fold-roll-Tree ℕ ℕ (counts.tree_count_at w) counts.case_count_at y

pub case_count_layer : (w : Weights) (y : TreeCase-F Tree TreeCase) → case_count w (roll-TreeCase y) ≡ counts.case_count_at (case.map-TreeCase Tree TreeCase ℕ ℕ (tree_count w) (case_count w) y)
case_count_layer w y = case.fold-roll-TreeCase ℕ ℕ (counts.tree_count_at w) counts.case_count_at y

pub row_layer : (y : Tree-F Tree TreeCase) → tree_row (roll-Tree y) ≡ loose.tree_row_at (tree.map-Tree Tree TreeCase TreeRow CaseRow tree_row case_row y)
row_layer y = tree.fold-roll-Tree TreeRow CaseRow loose.tree_row_at loose.case_row_at y

pub case_row_layer : (y : TreeCase-F Tree TreeCase) → case_row (roll-TreeCase y) ≡ loose.case_row_at (case.map-TreeCase Tree TreeCase TreeRow CaseRow tree_row case_row y)
case_row_layer y = case.fold-roll-TreeCase TreeRow CaseRow loose.tree_row_at loose.case_row_at y
