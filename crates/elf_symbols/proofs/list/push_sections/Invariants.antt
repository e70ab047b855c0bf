use Rattle.std.proofs.Common.{◌≡◌, ◌++◌}
use Rattle.elf_symbols.specs.Functions.{rows_below, section_functions}
use Rattle.elf_symbols.proofs.list.push_sections.Given as goal

abbrev pub invariant-loop-k : goal.invariant-loop-k
invariant-loop-k l = l.list.items ≡ l.initial.list.items ++ rows_below l.k (section_functions l.bytes l.kind)
