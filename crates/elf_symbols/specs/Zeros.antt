-- The zero bytes of a file, which end names.
use Rattle.std.specs.Prelude.{ℕ, zero, suc, ◌*◌, ◌==◌, List, [], ◌∷◌, ◌++◌, slice_index, if◌then◌else◌}

-- the place after the last zero byte below a place, or 0
abbrev pub after_zero : List ℕ → ℕ → ℕ
after_zero bytes zero = 0
after_zero bytes (suc p) = if slice_index bytes p == 0 then suc p else after_zero bytes p

-- the same for the first n multiples of 256
abbrev pub zeros_below : List ℕ → ℕ → List ℕ
zeros_below bytes zero = []
zeros_below bytes (suc n) = zeros_below bytes n ++ after_zero bytes (256 * n) ∷ []
