-- Induction over trees and their cases: one field a variant.
use Rattle.std.proofs.Common.{ℕ, List, [], ◌∷◌, Some, None, map, subst}
use Rattle.dream_words.specs.declared.machine.Name.{Name}
use Rattle.cond_terms.specs.declared.term.Term.{Term}
pub use Rattle.cond_terms.proofs.Induct.{TermCases, every_term}
use Rattle.micro_ir.specs.declared.flow.Block.{Block}
use Rattle.guarded.specs.declared.tree.SetTo.{SetTo}
use Rattle.guarded.specs.declared.tree.Tree as tree
use Rattle.guarded.specs.declared.tree.Tree.{Tree, Tree-F, roll-Tree, ind-Tree}
use Rattle.guarded.specs.declared.tree.TreeCase as case
use Rattle.guarded.specs.declared.tree.TreeCase.{TreeCase, TreeCase-F, roll-TreeCase}

-- each member of a list
abbrev pub Each : {A : Type 0} → (A → Type 0) → List A → Type 0
Each P [] = Unit {0}
Each P (x ∷ xs) = P x × Each P xs

-- each member of a list that is mapped
each_of : {A X : Type 0} (P : A → Type 0) (f : X → A) → ((x : X) → P (f x)) → (xs : List X) → Each P (map f xs)
each_of P f p [] = tt
each_of P f p (x ∷ xs) = (p x, each_of P f p xs)

-- what is to be shown of each variant of a tree, and of a case
pub record TreeCases (P : Tree → Type 0) (Q : TreeCase → Type 0) : Type 0 where
  pub block : (b : Block) → P (roll-Tree (Tree-F.Block b))
  pub seq : (ts : List Tree) → Each P ts → P (roll-Tree (Tree-F.Seq ts))
  pub if_none : (t : Term) (a : Tree) → P a → P (roll-Tree (Tree-F.If t a None))
  pub if_some : (t : Term) (a b : Tree) → P a → P b → P (roll-Tree (Tree-F.If t a (Some b)))
  pub switch : (n : Name) (cs : List TreeCase) (last : Tree) → Each Q cs → P last → P (roll-Tree (Tree-F.Switch n cs last))
  pub loop : (a : Tree) → P a → P (roll-Tree (Tree-F.Loop a))
  pub while : (t : Term) (a : Tree) → P a → P (roll-Tree (Tree-F.While t a))
  pub do_while : (a : Tree) (t : Term) → P a → P (roll-Tree (Tree-F.DoWhile a t))
  pub break : P (roll-Tree Tree-F.Break)
  pub set : (n : Name) (to : SetTo) → P (roll-Tree (Tree-F.Set n to))
  pub case_of : (values : List ℕ) (body : Tree) → P body → Q (roll-TreeCase (record { values = values; body = body }))

module _ (P : Tree → Type 0) (Q : TreeCase → Type 0) (cases : TreeCases P Q) (X Y : Type 0) (f : X → Tree) (g : Y → TreeCase)
    (p : (x : X) → P (f x)) (q : (y : Y) → Q (g y)) where
  -- each layer is one of the variants
  tree_layer : (y : Tree-F X Y) → P (roll-Tree (tree.map-Tree X Y Tree TreeCase f g y))
  tree_layer (Tree-F.Block b) = cases.block b
  tree_layer (Tree-F.Seq ts) = cases.seq (map f ts) (each_of P f p ts)
  tree_layer (Tree-F.If t a None) = cases.if_none t (f a) (p a)
  tree_layer (Tree-F.If t a (Some b)) = cases.if_some t (f a) (f b) (p a) (p b)
  tree_layer (Tree-F.Switch n cs last) = cases.switch n (map g cs) (f last) (each_of Q g q cs) (p last)
  tree_layer (Tree-F.Loop a) = cases.loop (f a) (p a)
  tree_layer (Tree-F.While t a) = cases.while t (f a) (p a)
  tree_layer (Tree-F.DoWhile a t) = cases.do_while (f a) t (p a)
  tree_layer Tree-F.Break = cases.break
  tree_layer (Tree-F.Set n to) = cases.set n to

  case_layer : (y : TreeCase-F X Y) → Q (roll-TreeCase (case.map-TreeCase X Y Tree TreeCase f g y))
  case_layer y = cases.case_of y.values (f y.body) (p y.body)

-- what holds at each variant holds of every tree
pub every_tree : {P : Tree → Type 0} {Q : TreeCase → Type 0} → TreeCases P Q → (t : Tree) → P t
every_tree {P} {Q} cases t = ind-Tree P Q
    (λ x y h. subst (λ z. P (roll-Tree z)) h (tree_layer P Q cases _ _ (λ e'. e'.0) (λ e'. e'.0) (λ e'. e'.1) (λ e'. e'.1) y))
    (λ x y h. subst (λ z. Q (roll-TreeCase z)) h (case_layer P Q cases _ _ (λ e'. e'.0) (λ e'. e'.0) (λ e'. e'.1) (λ e'. e'.1) y)) t
