use Rattle.std.proofs.Common.{◌≡◌, drop}
use Rattle.std.specs.Prelude.{map, string_bytes, is_some}
use Rattle.std.specs.List.{list_all}
use Rattle.run_lines.specs.StartWords.{start_word_of}
use Rattle.run_lines.proofs.words.are_start_words.Given as goal

-- All words say something where all that are left do.
abbrev pub invariant-loop-word : goal.invariant-loop-word
invariant-loop-word l =
    list_all (λ w. is_some (start_word_of w)) (map string_bytes (drop l.word-index l.words))
    ≡ list_all (λ w. is_some (start_word_of w)) (map string_bytes l.words)
