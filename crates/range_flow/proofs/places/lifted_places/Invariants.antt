use Rattle.std.proofs.Common.{◌≡◌, map, take}
use Rattle.std.specs.Prelude.{All}
use Rattle.range_flow.specs.Lifting.{IsLiftedIn}
use Rattle.range_flow.proofs.places.lifted_places.Given as goal

abbrev pub invariant-loop-place : goal.invariant-loop-place
invariant-loop-place l =
    (map (λ x. x.at) l.all.items ≡ take l.place-index l.places)
    × All (IsLiftedIn l.m l.r) l.all.items
