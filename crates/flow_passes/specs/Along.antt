-- When the runs of one meaning do what those of another do, counted in other units.
use Rattle.std.specs.Prelude.{◌≡◌, ℕ, List}
use Rattle.dream_words.specs.declared.outcome.Call.{Call}
use Rattle.dream_words.specs.declared.outcome.Outcome.{Outcome}
use Rattle.dream_words.specs.declared.outcome.Outcome.TheVariants.{Stuck, Going}
use Rattle.dream_words.specs.Same.{IsEnded, calls_of}
use Rattle.run_parts.specs.Laws.{Begins}

-- no run is stuck
abbrev pub NeverStuck : (ℕ → Outcome) → Type 0
NeverStuck run = (k : ℕ) → run k ≡ Stuck → ⊥

-- The new runs do what the old ones do: those of a tree, in loop turns, what those of a flow do, in blocks; or those of a
-- flow whose blocks were joined.
pub record GoesAlong (old new : ℕ → Outcome) : Type 0 where
  -- where an old run has ended, some new one has ended so
  pub ends : (k : ℕ) → IsEnded (old k) → (m : ℕ) × (new m ≡ old k)
  -- where a new run has ended, some old one has ended so
  pub ends_only : (m : ℕ) → IsEnded (new m) → (k : ℕ) × (old k ≡ new m)
  -- the calls of an old run that goes on begin those of some new one
  pub calls : (k : ℕ) (c : List Call) → old k ≡ Going c → (m : ℕ) × Begins c (calls_of (new m))
  -- the calls of a new run that goes on begin those of some old one
  pub calls_only : (m : ℕ) (c : List Call) → new m ≡ Going c → (k : ℕ) × Begins c (calls_of (old k))
  pub never_stuck : NeverStuck new
