-- Runs that go step by step from address to address.
use Rattle.std.specs.Prelude.{ℕ, zero, suc, Bool, true, false}
use Rattle.x86_model.specs.Machine.{Onward, At, Finished, Strays, Blank}

-- goes on from an address that was come to
abbrev pub go_on : {M E : Type 0} → Onward M E → (ℕ → M → Onward M E) → Onward M E
go_on (At a m) f = f a m
go_on (Finished e) f = Finished e
go_on Strays f = Strays
go_on Blank f = Blank

-- a step that is judged to stray leads nowhere else
abbrev pub judged : {M E : Type 0} → Bool → Onward M E → Onward M E
judged true r = Strays
judged false r = r

module _ (M E : Type 0) (step : ℕ → M → Onward M E) where
  -- at most n steps
  abbrev pub steps : ℕ → ℕ → M → Onward M E
  steps zero a m = At a m
  steps (suc n) a m = go_on (step a m) (steps n)
