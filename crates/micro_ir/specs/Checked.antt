-- Which flows are checked: those in which each node that is named is a block of the flow.
use Rattle.std.specs.Prelude.{◌≡◌, ℕ, ◌<◌, nat_le, Bool, List, [], ◌∷◌, Option, Some, length, map, position, slice_get, Contains, if◌then◌else◌}
use Rattle.std.specs.List.{list_any}
use Rattle.micro_ir.specs.declared.flow.End.{End as BlockEnd}
use Rattle.micro_ir.specs.declared.flow.End.TheVariants as end
use Rattle.micro_ir.specs.declared.flow.Block.{Block}
use Rattle.micro_ir.specs.declared.flow.Flow.{Flow}

-- the nodes that an end names, in reading order
abbrev pub nodes_of : BlockEnd → List ℕ
nodes_of (end.Go a) = a ∷ []
nodes_of (end.Branch t a b) = a ∷ b ∷ []
nodes_of (end.Switch e cases) = map (λ c. c.to) cases
nodes_of end.Return = []
nodes_of (end.Leave e) = []

-- an end names a node that isn't below the count
abbrev pub names_outside : ℕ → BlockEnd → Bool
names_outside count e = list_any (λ n. nat_le count n) (nodes_of e)

-- Block 0 where the entry isn't below the count, else the least block that names a node that isn't.
abbrev pub bad_block : Flow → Option ℕ
bad_block f = if nat_le (length f.blocks) f.entry then Some 0 else position (λ b. names_outside (length f.blocks) b.end) f.blocks

-- The entry, and each node that an end names, is below the count.
pub record IsChecked (f : Flow) : Type 0 where
  pub entry_inside : f.entry < length f.blocks
  pub nodes_inside : (n a : ℕ) (b : Block) → slice_get f.blocks n ≡ Some b → Contains (nodes_of b.end) a → a < length f.blocks
