use Rattle.std.proofs.Common.{◌≡◌, ◌+◌, ◌++◌, ◌^◌, ◌<◌, map, take}
use Rattle.std.specs.Prelude.{All}
use Rattle.range_flow.specs.Nodes.{leave_piece, pieces_of, total_of}
use Rattle.range_flow.proofs.places.push_leaves.Given as goal

abbrev pub invariant-loop-address : goal.invariant-loop-address
invariant-loop-address l =
    (pieces_of l.all.items ≡ pieces_of l.fn.all.items ++ map leave_piece (take l.address-index l.outside))
    × (total_of l.all.items ≡ total_of l.fn.all.items + l.address-index)
    × All (λ a. a < 2 ^ 32) (take l.address-index l.outside)
