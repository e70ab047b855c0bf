-- How the steps that are left become one fewer.
use Rattle.std.proofs.Common.{◌≡◌, ℕ, suc, ◌+◌, ◌-◌, ◌<◌, ◌≤◌, refl, ap, ◌∙◌, arith}
use Rattle.x86_model.specs.Machine.{Onward, At, State, Ending}
use Rattle.machine.specs.declared.states.Led.{Led}
use Rattle.machine.specs.declared.states.Led.TheVariants.{To, Returned, Faulted, Asking, Strayed, Undecoded}
use Rattle.machine.specs.Steps.{go_on, steps}
use Rattle.machine.specs.Coded.{onward}

module _ (step : ℕ → State → Onward State Ending) where
  -- after one step, the steps that are left lead where they led with it
  pub one_fewer : (n k at : ℕ) (m : State) (o : Onward State Ending) → k < n → o ≡ step at m
      → go_on o (steps State Ending step (n - (k + 1))) ≡ steps State Ending step (n - k) at m
  one_fewer n k at m o lt e =
      let f : suc (n - (k + 1)) ≡ n - k = omega (arith, lt) in
      ap (λ x. go_on x (steps State Ending step (n - (k + 1)))) e ∙ ap (λ j. steps State Ending step j at m) f

  -- no step is left
  pub none_left : (n k at : ℕ) (m : State) → n ≤ k → steps State Ending step (n - k) at m ≡ At at m
  none_left n k at m le = let e : n - k ≡ 0 = omega (arith, le) in ap (λ j. steps State Ending step j at m) e

-- a run that led elsewhere than to an address is over
pub is_over : (led : Led) (m : State) (f : ℕ → State → Onward State Ending) → ((a : ℕ) → led ≡ To a → ⊥) → go_on (onward led m) f ≡ onward led m
is_over (To a) m f h = absurd (h a refl)
is_over Returned m f h = refl
is_over (Faulted v bad) m f h = refl
is_over Asking m f h = refl
is_over Strayed m f h = refl
is_over Undecoded m f h = refl
