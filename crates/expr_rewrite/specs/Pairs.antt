-- Lists that are related element by element.
use Rattle.std.specs.Prelude.{List, [], ◌∷◌}

-- they are as long, and each element of the first is related to the one at its place in the second
abbrev pub Pairs : {A : Type 0} → (A → A → Type 0) → List A → List A → Type 0
Pairs r [] [] = Unit {0}
Pairs r (x ∷ xs) (y ∷ ys) = r x y × Pairs r xs ys
Pairs r xs ys = ⊥
