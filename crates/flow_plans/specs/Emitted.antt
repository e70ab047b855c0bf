-- The trees of a plan.
use Rattle.std.specs.Prelude.{ℕ, nat_eq, Bool, true, false, ◌&&◌, if◌then◌else◌, List, [], ◌∷◌, ◌++◌, Option, Some, None, slice_get}
use Rattle.dream_words.specs.declared.machine.Name.{Name}
use Rattle.dream_words.specs.declared.machine.Name.TheVariants.{B}
use Rattle.c_syntax.specs.declared.syntax.CExpr.{CExpr}
use Rattle.c_syntax.specs.declared.syntax.CCond.{CCond}
use Rattle.c_syntax.specs.declared.syntax.CCmp.TheVariants as cmp
use Rattle.c_words.specs.Built as built
use Rattle.cond_terms.specs.declared.term.Lit.TheVariants as lit
use Rattle.cond_terms.specs.declared.term.Term.{Term, Term-F, roll-Term}
use Rattle.micro_ir.specs.declared.flow.End.{End as BlockEnd}
use Rattle.micro_ir.specs.declared.flow.End.TheVariants as end
use Rattle.micro_ir.specs.declared.flow.Block.{Block}
use Rattle.guarded.specs.declared.tree.SetTo.{SetTo}
use Rattle.guarded.specs.declared.tree.SetTo.TheVariants as to
use Rattle.guarded.specs.declared.tree.Tree.{Tree, Tree-F, roll-Tree}
use Rattle.regions.specs.Plain.{block_tree}
use Rattle.flow_plans.specs.declared.plan.Value.{Value}
use Rattle.flow_plans.specs.declared.plan.Way.{Way}
use Rattle.flow_plans.specs.declared.plan.Plan.{Plan, Plan-F, fold-Plan}

-- trees one after another, as one tree
abbrev pub gathered : List Tree → Tree
gathered (t ∷ []) = t
gathered ts = roll-Tree (Tree-F.Seq ts)

-- ---- tests

-- the number of a local for tests
abbrev pub number_of : Name → ℕ
number_of (B n) = n
number_of m = 0

-- the variable has its value
abbrev pub has_value : Value → Term
has_value a = roll-Term (Term-F.Lit (lit.Eq (number_of a.name) a.value))

abbrev pub or_any : Term → List Value → Term
or_any t [] = t
or_any t (a ∷ rest) = or_any (roll-Term (Term-F.Or t (has_value a))) rest

-- one of the variables has its value
abbrev pub any_of : List Value → Term
any_of [] = roll-Term Term-F.False
any_of (a ∷ rest) = or_any (has_value a) rest

-- one of two lists of trees, by a term; an empty one doesn't stand there
abbrev pub two_ways : Term → List Tree → List Tree → Tree
two_ways t [] second = roll-Tree (Tree-F.If (roll-Term (Term-F.Not t)) (gathered second) None)
two_ways t first [] = roll-Tree (Tree-F.If t (gathered first) None)
two_ways t first second = roll-Tree (Tree-F.If t (gathered first) (Some (gathered second)))

-- A test by its values. That a variable is 0 is told the other way round: the variable isn't 0.
abbrev pub test_tree : List Value → List Tree → List Tree → Tree
test_tree [] first second = two_ways (any_of []) first second
test_tree (a ∷ []) first second = if nat_eq a.value 0 then two_ways (roll-Term (Term-F.Lit (lit.Bool (number_of a.name)))) second first else two_ways (has_value a) first second
test_tree (a ∷ b ∷ rest) first second = two_ways (any_of (a ∷ b ∷ rest)) first second

-- ---- blocks

-- a variable is set
abbrev pub sets : Name → SetTo → Tree
sets v to = roll-Tree (Tree-F.Set v to)

-- the first number where the condition is true, else the second
abbrev pub way_word : CCond → ℕ → ℕ → SetTo
way_word t a b = if nat_eq a 1 && nat_eq b 0 then to.Cond t else to.Expr (built.pick t (built.num a) (built.num b))

-- which way a block went
abbrev pub way_trees : Way → BlockEnd → List Tree
way_trees w (end.Go x) = []
way_trees w (end.Branch t x y) = sets w.name (way_word t w.on_true w.on_false) ∷ []
way_trees w (end.Switch e cases) = sets w.name (to.Expr e) ∷ []
way_trees w end.Return = []
way_trees w (end.Leave e) = []

abbrev pub block_trees : Way → Option Block → List Tree
block_trees w None = []
block_trees w (Some k) = block_tree k ∷ way_trees w k.end

-- ---- plans

abbrev pub joined : List (List Tree) → List Tree
joined [] = []
joined (ts ∷ rest) = ts ++ joined rest

-- the first number where the variable has its value, else the second
abbrev pub picked_word : Value → ℕ → ℕ → SetTo
picked_word u a b = to.Expr (built.pick (built.cmp cmp.Eq (built.name u.name) (built.num u.value)) (built.num a) (built.num b))

-- A plan by its parts.
abbrev pub trees_at : List Block → Plan-F (List Tree) → List Tree
trees_at blocks (Plan-F.Block n w) = block_trees w (slice_get blocks n)
trees_at blocks (Plan-F.Seq ps) = joined ps
trees_at blocks (Plan-F.Test c p q) = test_tree c p q ∷ []
trees_at blocks (Plan-F.Put a) = sets a.name (to.Expr (built.num a.value)) ∷ []
trees_at blocks (Plan-F.Pick w u) = sets w.name (picked_word u w.on_true w.on_false) ∷ []
trees_at blocks (Plan-F.Forget fs) = []
trees_at blocks (Plan-F.Fade v) = []
trees_at blocks Plan-F.Leave = roll-Tree Tree-F.Break ∷ []
trees_at blocks (Plan-F.Loop begins ends p) = roll-Tree (Tree-F.Loop (gathered p)) ∷ []

-- the trees of a plan, one after another
abbrev pub trees_of : List Block → Plan → List Tree
trees_of blocks = fold-Plan (List Tree) (trees_at blocks)

-- the tree of a plan
abbrev pub emitted : List Block → Plan → Tree
emitted blocks p = gathered (trees_of blocks p)
