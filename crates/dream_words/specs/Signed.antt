-- Signed numbers by their sign and their distance from 0.
use Rattle.std.specs.Prelude.{ℕ, ℤ, pos, neg_ℤ, Bool, true, false, not, if◌then◌else◌}

-- the number of a sign and a distance; true stands for below 0
abbrev pub signed_by : Bool → ℕ → ℤ
signed_by true m = neg_ℤ (pos m)
signed_by false m = pos m

-- one of two holds and the other doesn't
abbrev pub differ : Bool → Bool → Bool
differ a b = if a then not b else b
