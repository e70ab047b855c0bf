use Rattle.std.proofs.Common.{◌≡◌, ◌++◌, map}
use Rattle.std.specs.Vec.Iter.{into_iter_items}
use Rattle.range_flow.specs.Pieces.{moved_block}
use Rattle.range_flow.specs.Nodes.{node_in}
use Rattle.range_flow.proofs.nodes.push_blocks.Given as goal

-- what is there, and what is left, is the whole
abbrev pub invariant-loop-block : goal.invariant-loop-block
invariant-loop-block l =
    l.flow.items ++ map (moved_block (node_in l.nodes)) (into_iter_items l.block-iterator)
    ≡ l.initial.flow.items ++ map (moved_block (node_in l.nodes)) l.fn.blocks.items
