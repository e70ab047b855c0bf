-- What holds of the function of each tree.
use Rattle.std.specs.Prelude.{◌≡◌, ◌^◌, ◌<◌, ℕ, List, map, Contains}
use Rattle.dream_words.specs.declared.machine.Name.{Name}
use Rattle.dream_words.specs.declared.machine.Name.TheVariants as name
use Rattle.dream_words.specs.declared.outcome.Start.{Start}
use Rattle.dream_words.specs.declared.outcome.Answer.{Answer}
use Rattle.c_syntax.specs.declared.syntax.CFun.{CFun}
use Rattle.c_syntax.specs.Run.{c_run}
use Rattle.c_syntax.specs.Formed.{IsWellFormed}
use Rattle.guarded.specs.declared.tree.Tree.{Tree}
use Rattle.guarded.specs.Run.{tree_run}
use Rattle.guarded.specs.Formed.{IsWellFormed as TreeIsWellFormed}
use Rattle.guarded.specs.Uses.{Use, Reads, Sets, names_of, tree_uses, c_uses}
use Rattle.guarded.specs.Numbers.{locals_of}
use Rattle.guarded.specs.Loose.{HasLoosePair, TreeHasLoosePair}
use Rattle.guarded.specs.Counts.{tree_count, each_loop, each_test, each_ext, each_store, selectors_of, loops_in, tests_in, ext_in, stores_in, selectors_in}
use Rattle.c_emit.specs.Emitted.{below, new_name, emitted}

-- it has the run of the tree
abbrev pub EmitKeepsRuns : Type 0
EmitKeepsRuns = (t : Tree) (address : ℕ) (start : Start) (answers : List Answer) (m : ℕ) → c_run (emitted t address) start answers m ≡ tree_run t start answers m

-- it has as many loops, tests, calls and stores as the tree
pub record EmitKeepsCounts : Type 0 where
  pub loops : (t : Tree) (address : ℕ) → loops_in (emitted t address) ≡ tree_count each_loop t
  pub tests : (t : Tree) (address : ℕ) → tests_in (emitted t address) ≡ tree_count each_test t
  pub calls : (t : Tree) (address : ℕ) → ext_in (emitted t address) ≡ tree_count each_ext t
  pub stores : (t : Tree) (address : ℕ) → stores_in (emitted t address) ≡ tree_count each_store t

-- a use, with a new name
abbrev pub renamed_use : (Name → Name) → Use → Use
renamed_use f (Reads n) = Reads (f n)
renamed_use f (Sets n) = Sets (f n)

-- the new names of a tree
abbrev pub renumbering : Tree → Name → Name
renumbering t = new_name (locals_of (names_of (tree_uses t)))

-- it reads and sets the names of the tree, place by place, under their new names
abbrev pub EmitKeepsNames : Type 0
EmitKeepsNames = (t : Tree) (address : ℕ) → c_uses (emitted t address).body ≡ map (renamed_use (renumbering t)) (tree_uses t)

-- of a well-formed tree it is well formed: so every name of the tree is declared
abbrev pub EmitIsWellFormed : Type 0
EmitIsWellFormed = (t : Tree) (address : ℕ) → address < 2 ^ 32 → TreeIsWellFormed t → IsWellFormed (emitted t address)

-- it declares just the locals of the tree: each one is the new name of one of them
pub record EmitDeclaresJustThese : Type 0 where
  pub temps : (t : Tree) (address k : ℕ) → k < (emitted t address).temps → (n : ℕ) × Contains (names_of (tree_uses t)) (name.T n) × (renumbering t (name.T n) ≡ name.T k)
  pub bools : (t : Tree) (address k : ℕ) → k < (emitted t address).bools → (n : ℕ) × Contains (names_of (tree_uses t)) (name.B n) × (renumbering t (name.B n) ≡ name.B k)
  pub selectors : (t : Tree) (address k : ℕ) → k < (emitted t address).selectors → (n : ℕ) × Contains (names_of (tree_uses t)) (name.S n) × (renumbering t (name.S n) ≡ name.S k)
  -- of two locals of a kind the lesser number gets the lesser new number
  pub temps_in_order : (t : Tree) (n m : ℕ) → Contains (names_of (tree_uses t)) (name.T n) → n < m
      → below (locals_of (names_of (tree_uses t))).temps n < below (locals_of (names_of (tree_uses t))).temps m
  pub bools_in_order : (t : Tree) (n m : ℕ) → Contains (names_of (tree_uses t)) (name.B n) → n < m
      → below (locals_of (names_of (tree_uses t))).bools n < below (locals_of (names_of (tree_uses t))).bools m
  pub selectors_in_order : (t : Tree) (n m : ℕ) → Contains (names_of (tree_uses t)) (name.S n) → n < m
      → below (locals_of (names_of (tree_uses t))).selectors n < below (locals_of (names_of (tree_uses t))).selectors m
  -- so a well-formed tree has as many selectors as its function
  pub selectors_count : (t : Tree) (address : ℕ) → TreeIsWellFormed t → selectors_in (emitted t address) ≡ selectors_of t

-- of a tree without a loose pair it has none
abbrev pub EmitAddsNoLoosePair : Type 0
EmitAddsNoLoosePair = (t : Tree) (address : ℕ) → (TreeHasLoosePair t → ⊥) → HasLoosePair (emitted t address).body → ⊥

-- What holds of a function that is the tree's: the same run, well formed where the tree is, the same counts, the names of the
-- tree, renumbered, and no loose pair where the tree has none.
pub record IsTreeOf (t : Tree) (f : CFun) : Type 0 where
  pub runs : (start : Start) (answers : List Answer) (m : ℕ) → c_run f start answers m ≡ tree_run t start answers m
  pub formed : TreeIsWellFormed t → IsWellFormed f
  pub loops : loops_in f ≡ tree_count each_loop t
  pub tests : tests_in f ≡ tree_count each_test t
  pub calls : ext_in f ≡ tree_count each_ext t
  pub stores : stores_in f ≡ tree_count each_store t
  pub selectors : TreeIsWellFormed t → selectors_in f ≡ selectors_of t
  pub names : c_uses f.body ≡ map (renamed_use (renumbering t)) (tree_uses t)
  pub loose : (TreeHasLoosePair t → ⊥) → HasLoosePair f.body → ⊥
