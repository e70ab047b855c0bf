-- What a function keeps of another.
use Rattle.std.specs.Prelude.{◌≡◌, ℕ, List}
use Rattle.dream_words.specs.declared.outcome.Start.{Start}
use Rattle.dream_words.specs.declared.outcome.Answer.{Answer}
use Rattle.dream_words.specs.declared.outcome.Outcome.TheVariants as outcome
use Rattle.c_syntax.specs.declared.syntax.CFun.{CFun}
use Rattle.c_syntax.specs.Run.{c_run}
use Rattle.guarded.specs.Counts.{loops_in, tests_in, ext_in, stores_in, selectors_in}

-- The second function has each run of the first that isn't stuck, from every start, in as many turns.
pub record KeepsTurns (f g : CFun) : Type 0 where
  pub by : (start : Start) (answers : List Answer) (m : ℕ) → (c_run f start answers m ≡ outcome.Stuck → ⊥) → c_run g start answers m ≡ c_run f start answers m

-- It has as many loops, tests, calls, stores and selectors.
pub record KeepsCounts (f g : CFun) : Type 0 where
  pub loops : loops_in g ≡ loops_in f
  pub tests : tests_in g ≡ tests_in f
  pub calls : ext_in g ≡ ext_in f
  pub stores : stores_in g ≡ stores_in f
  pub selectors : selectors_in g ≡ selectors_in f
