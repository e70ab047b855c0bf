use Rattle.std.proofs.Common.{◌≡◌, ◌+◌, ◌++◌, length}
use Rattle.std.specs.Vec.Iter.{into_iter_items}
use Rattle.range_flow.specs.Nodes.{first_by, joined_from, total_of}
use Rattle.range_flow.proofs.assembly.joined.Given as goal

-- what is there, and what is left, is the whole
abbrev pub invariant-loop-one : goal.invariant-loop-one
invariant-loop-one l =
    (length l.blocks.items + total_of (into_iter_items l.one-iterator) ≡ total_of l.fn.all.items)
    × (l.blocks.items ++ joined_from (first_by l.firsts) (length l.blocks.items) (into_iter_items l.one-iterator)
    ≡ joined_from (first_by l.firsts) 0 l.fn.all.items)
