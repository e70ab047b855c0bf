use Rattle.std.proofs.Common.{◌≡◌, drop}
use Rattle.std.specs.Prelude.{map, string_bytes}
use Rattle.run_lines.specs.StartWords.{arguments_in}
use Rattle.run_lines.specs.Starts.{with_arguments}
use Rattle.run_lines.proofs.starts.put_arguments.Given as goal

-- The words that are left lead to the memory of all.
abbrev pub invariant-loop-word : goal.invariant-loop-word
invariant-loop-word l =
    with_arguments l.image l.mem l.a (arguments_in (map string_bytes (drop l.word-index l.words)))
    ≡ with_arguments l.image l.fn.mem l.esp (arguments_in (map string_bytes l.words))
