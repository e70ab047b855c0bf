-- The tree of a flow that is one line of blocks.
use Rattle.std.specs.Prelude.{◌≡◌, ◌↔◌, IsSome, ℕ, zero, suc, nat_eq, if◌then◌else◌, List, [], ◌∷◌, ◌++◌, Option, Some, None, length, slice_get}
use Rattle.micro_ir.specs.declared.flow.End.{End as BlockEnd}
use Rattle.micro_ir.specs.declared.flow.End.TheVariants as end
use Rattle.micro_ir.specs.declared.flow.Block.{Block}
use Rattle.micro_ir.specs.declared.flow.Flow.{Flow}
use Rattle.guarded.specs.declared.tree.Tree.{Tree, Tree-F, roll-Tree}
use Rattle.regions.specs.declared.one_line.Way.{Way}
use Rattle.regions.specs.declared.one_line.Way.TheVariants.{On, Over, Splits}
use Rattle.regions.specs.Plain.{block_tree}

-- A Branch between one and the same node goes on there.
abbrev pub way_of : BlockEnd → Way
way_of (end.Go a) = On a
way_of (end.Branch t a b) = if nat_eq a b then On a else Splits
way_of (end.Switch e cases) = Splits
way_of end.Return = Over
way_of (end.Leave e) = Over

-- a tree, and then those of a line that there may be
abbrev pub with_rest : Tree → Option (List Tree) → Option (List Tree)
with_rest t None = None
with_rest t (Some ts) = Some (t ∷ ts)

-- a block, and then the line that goes on by its way
abbrev pub on_way : Tree → Way → (ℕ → Option (List Tree)) → Option (List Tree)
on_way t (On a) rest = with_rest t (rest a)
on_way t Over rest = Some (t ∷ [])
on_way t Splits rest = None

abbrev pub from_block : Option Block → (ℕ → Option (List Tree)) → Option (List Tree)
from_block None rest = None
from_block (Some b) rest = on_way (block_tree b) (way_of b.end) rest

-- The line of at most so many blocks, from the block of a number on. None where it splits or is longer.
abbrev pub line : List Block → ℕ → ℕ → Option (List Tree)
line blocks zero n = None
line blocks (suc k) n = from_block (slice_get blocks n) (line blocks k)

-- the way of a block that there may be, and its tree
abbrev pub way_at : Option Block → Way
way_at None = Splits
way_at (Some b) = way_of b.end

abbrev pub trees_at : Option Block → List Tree
trees_at None = []
trees_at (Some b) = block_tree b ∷ []

-- a line that there may be, behind other trees
abbrev pub behind : List Tree → Option (List Tree) → Option (List Tree)
behind ts None = None
behind ts (Some us) = Some (ts ++ us)

-- the trees of a line one after another
abbrev pub in_line : Option (List Tree) → Option Tree
in_line None = None
in_line (Some ts) = Some (roll-Tree (Tree-F.Seq ts))

-- A line of more blocks than the flow has comes to one of them twice, so it never ends.
abbrev pub straight_tree : Flow → Option Tree
straight_tree f = in_line (line f.blocks (length f.blocks) f.entry)

-- where the line goes on after its first block
abbrev pub goes_on : Way → (ℕ → Way) → Way
goes_on (On a) next = next a
goes_on Over next = Over
goes_on Splits next = Splits

-- where it goes on after so many blocks, from the block of a number on
abbrev pub way_after : List Block → ℕ → ℕ → Way
way_after blocks zero n = On n
way_after blocks (suc k) n = goes_on (way_at (slice_get blocks n)) (way_after blocks k)

-- There is a straight tree exactly where the line from the entry on is over after some number of blocks.
abbrev pub StraightIsExact : Type 0
StraightIsExact = (f : Flow) → IsSome (straight_tree f) ↔ ((k : ℕ) × (way_after f.blocks k f.entry ≡ Over))
