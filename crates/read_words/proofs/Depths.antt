-- How much depth is left inside open parts, by how many there are.
use Rattle.std.proofs.Common.{◌≡◌, ◌-◌, List, [], ◌∷◌, length, reverse, refl, arith}
use Rattle.std.proofs.lemmas.List.{length-reverse}
use Rattle.read_words.specs.declared.open.Open.{Open}
use Rattle.read_words.specs.Turns.{depth_left}

depth_counted : (os : List Open) → depth_left os ≡ 256 - length os
depth_counted [] = refl
depth_counted (o ∷ os) = let e = depth_counted os in omega arith

-- from outside inwards there are as many
pub depth_is : (os : List Open) → 256 - length os ≡ depth_left (reverse os)
depth_is os = let e = depth_counted (reverse os) in let n = length-reverse os in omega arith
