-- Where a number stands among ascending ones.
use Rattle.std.specs.Prelude.{◌≡◌, ℕ, ◌<◌, ◌≤◌, List, length, slice_index, insert}
use Rattle.std.specs.List.Sorted.{IsStrictlyIncreasing}
use Rattle.guarded.specs.Numbers.{with_number}

-- those before the place are below the number, and those from it on aren't
pub record IsPlace (ks : List ℕ) (n i : ℕ) : Type 0 where
  pub within : i ≤ length ks
  pub before : (j : ℕ) → j < i → slice_index ks j < n
  pub after : (j : ℕ) → i ≤ j → j < length ks → n ≤ slice_index ks j

-- to put the number at the place puts it among them, and they ascend still
pub record Puts (ks : List ℕ) (n i : ℕ) : Type 0 where
  pub within : i ≤ length ks
  pub puts : with_number ks n ≡ insert ks i n
  pub ascending : IsStrictlyIncreasing (insert ks i n)
