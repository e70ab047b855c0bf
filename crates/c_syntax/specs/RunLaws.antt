-- What a reader expects of the run of a function.
use Rattle.std.specs.Prelude.{◌≡◌, ℕ, ◌+◌, List}
use Rattle.dream_words.specs.declared.outcome.Start.{Start}
use Rattle.dream_words.specs.declared.outcome.Answer.{Answer}
use Rattle.dream_words.specs.declared.outcome.Outcome.{Outcome}
use Rattle.dream_words.specs.declared.outcome.Outcome.TheVariants.{Returned, Faulted, Asking, Strayed, Undecoded, Stuck, Going}
use Rattle.run_parts.specs.Laws.{OutcomeShows}
use Rattle.c_syntax.specs.declared.syntax.CFun.{CFun}
use Rattle.c_syntax.specs.Run.{c_run}

-- The second outcome is what the first may become in more turns: an end stays; the calls of a run that goes on begin
-- those of the other, unless that one is stuck.
abbrev pub Continues : Outcome → Outcome → Type 0
Continues (Going calls) o = OutcomeShows calls o
Continues (Returned r m c) o = o ≡ Returned r m c
Continues (Faulted v a m c) o = o ≡ Faulted v a m c
Continues (Asking c) o = o ≡ Asking c
Continues Strayed o = o ≡ Strayed
Continues Undecoded o = o ≡ Undecoded
Continues Stuck o = o ≡ Stuck

-- in more turns a run only continues
abbrev pub MoreTurnsContinue : Type 0
MoreTurnsContinue = (f : CFun) (start : Start) (answers : List Answer) (m k : ℕ)
    → Continues (c_run f start answers m) (c_run f start answers (m + k))
