use Rattle.std.proofs.Common.{◌≡◌, ◌+◌, ◌-◌}
use Rattle.dream_words.specs.Memory.{bytes_of}
use Rattle.dream_words.specs.Pages.{first_bad as first_bad_of}
use Rattle.dream_words.proofs.pages.first_bad.Given as goal

abbrev pub invariant-loop-k : goal.invariant-loop-k
invariant-loop-k l = record {
  left : first_bad_of l.runs (l.at + l.k) (bytes_of l.fn.w - l.k) ≡ first_bad_of l.runs l.at (bytes_of l.fn.w);
}
