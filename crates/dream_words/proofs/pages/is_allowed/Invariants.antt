use Rattle.std.proofs.Common.{◌≡◌, drop}
use Rattle.dream_words.specs.Pages.{is_in}
use Rattle.dream_words.proofs.pages.is_allowed.Given as goal

abbrev pub invariant-loop-run : goal.invariant-loop-run
invariant-loop-run l = record {
  left : is_in l.page (drop l.run-index l.runs) ≡ is_in l.page l.runs;
}
