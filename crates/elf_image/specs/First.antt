-- The least number that passes a test.
use Rattle.std.specs.Prelude.{ℕ, zero, suc, Bool, Option, Some, None, if◌then◌else◌}

-- the least number below n that passes a test
abbrev pub first_below : ℕ → (ℕ → Bool) → Option ℕ
first_below zero test = None
first_below (suc n) test = first_or_last (first_below n test) n (test n) where
  first_or_last : Option ℕ → ℕ → Bool → Option ℕ
  first_or_last (Some k) n b = Some k
  first_or_last None n b = if b then Some n else None
