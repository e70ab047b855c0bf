-- When one meaning does what another does. A meaning is the outcome for each bound: the machine's for each number of
-- steps, a flow's for each number of blocks, a tree's and a text's for each number of loop turns.
use Rattle.std.specs.Prelude.{◌≡◌, ◌⊎◌, ℕ}
use Rattle.dream_words.specs.declared.outcome.Outcome.{Outcome}
use Rattle.dream_words.specs.declared.outcome.Outcome.TheVariants.{Strayed, Undecoded, Stuck}
use Rattle.dream_words.specs.Same.{Same, IsEnded, IsGoing, calls_of, AreFront}

-- some run strays
abbrev pub Strays : (ℕ → Outcome) → Type 0
Strays old = (n : ℕ) × (old n ≡ Strayed)

-- The new meaning agrees with the old one. Nothing is said of a run after it has strayed but that it isn't stuck.
pub record Agreeing (old new : ℕ → Outcome) : Type 0 where
  -- where the old one returns, faults or asks, the new one does the same
  pub ends_alike : (n : ℕ) → IsEnded (old n) → (m : ℕ) × Same (old n) (new m)
  -- the new one returns, faults or asks only where the old one does the same, or strays
  pub ends_only_so : (m : ℕ) → IsEnded (new m) → ((n : ℕ) × Same (old n) (new m)) ⊎ Strays old
  -- while the old one goes on, its calls are a front of the new one's
  pub calls_agree : (n : ℕ) → IsGoing (old n) → (m : ℕ) × AreFront (calls_of (old n)) (calls_of (new m))
  -- the calls of the new one are a front of the old one's, or that strays
  pub calls_only_so : (m : ℕ) → ((n : ℕ) × AreFront (calls_of (new m)) (calls_of (old n))) ⊎ Strays old
  -- the new one is never stuck
  pub never_stuck : (m : ℕ) → new m ≡ Stuck → ⊥
  -- the old one always has an instruction
  pub never_undecoded : (n : ℕ) → old n ≡ Undecoded → ⊥

-- What agrees with a meaning that never strays carries over: between the layers there is no other theorem.
abbrev pub AgreementsCompose : Type 0
AgreementsCompose = (first second third : ℕ → Outcome) → Agreeing first second → Agreeing second third
    → (Strays second → ⊥) → Agreeing first third
