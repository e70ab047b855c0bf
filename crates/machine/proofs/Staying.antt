-- What is over stays over.
use Rattle.std.proofs.Common.{◌≡◌, ℕ, zero, suc, ◌+◌, ◌⊎◌, inl, inr, refl, sym, ap, ◌∙◌, arith}
use Rattle.dream_words.specs.Same.{IsGoing}
use Rattle.x86_model.specs.Machine.{Onward, At, Finished, Strays, Blank, State, Ending}
use Rattle.machine.specs.Steps.{go_on, steps}
use Rattle.machine.specs.Run.{step_at, scene_of, start_state, outcome_of, machine_run}
use Rattle.machine.specs.Laws.{OutcomesStay}

module _ (M E : Type 0) (step : ℕ → M → Onward M E) where
  on_again : (o : Onward M E) (f g : ℕ → M → Onward M E) → ((a : ℕ) (m : M) → f a m ≡ g a m) → go_on o f ≡ go_on o g
  on_again (At a m) f g h = h a m
  on_again (Finished e) f g h = refl
  on_again Strays f g h = refl
  on_again Blank f g h = refl

  on_on : (o : Onward M E) (f g : ℕ → M → Onward M E) → go_on (go_on o f) g ≡ go_on o (λ a m. go_on (f a m) g)
  on_on (At a m) f g = refl
  on_on (Finished e) f g = refl
  on_on Strays f g = refl
  on_on Blank f g = refl

  -- some steps and then more are all of them
  pub more_steps : (n k a : ℕ) (m : M) → steps M E step (n + k) a m ≡ go_on (steps M E step n a m) (steps M E step k)
  more_steps zero k a m = let e : 0 + k ≡ k = omega arith in ap (λ j. steps M E step j a m) e
  more_steps (suc n) k a m =
      let e : suc n + k ≡ suc (n + k) = omega arith in
      ap (λ j. steps M E step j a m) e
      ∙ on_again (step a m) (steps M E step (n + k)) (λ b t. go_on (steps M E step n b t) (steps M E step k)) (more_steps n k)
      ∙ sym (on_on (step a m) (steps M E step n) (steps M E step k))

-- an end stays, and a run that isn't over goes on
stays : (o : Onward State Ending) (f : ℕ → State → Onward State Ending) → IsGoing (outcome_of o) ⊎ (outcome_of (go_on o f) ≡ outcome_of o)
stays (At a m) f = inl (m.calls, refl)
stays (Finished e) f = inr refl
stays Strays f = inr refl
stays Blank f = inr refl

pub outcomes_stay : OutcomesStay
outcomes_stay m r decoded start answers n k =
    let step = step_at (scene_of m r decoded start) in
    let e : machine_run m r decoded start answers (n + k) ≡ outcome_of (go_on (steps State Ending step n r.entry (start_state start answers)) (steps State Ending step k))
    = ap outcome_of (more_steps State Ending step n k r.entry (start_state start answers)) in
    elim (stays (steps State Ending step n r.entry (start_state start answers)) (steps State Ending step k)) [ inl g ↦ inl g | inr s ↦ inr (e ∙ s) ]
