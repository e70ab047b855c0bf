-- What a function keeps of another.
use Rattle.std.specs.Prelude.{◌≡◌, ℕ, List}
use Rattle.dream_words.specs.declared.outcome.Start.{Start}
use Rattle.dream_words.specs.declared.outcome.Answer.{Answer}
use Rattle.c_syntax.specs.declared.syntax.CFun.{CFun}
use Rattle.c_syntax.specs.Run.{c_run}

-- The second function has each run of the first, from every start, in as many turns.
pub record HasTurns (f g : CFun) : Type 0 where
  pub by : (start : Start) (answers : List Answer) (m : ℕ) → c_run g start answers m ≡ c_run f start answers m
