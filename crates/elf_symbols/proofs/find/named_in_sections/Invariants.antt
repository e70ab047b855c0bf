use Rattle.std.proofs.Common.{◌≡◌, None}
use Rattle.elf_symbols.specs.Functions.{rows_below, section_functions, range_named}
use Rattle.elf_symbols.proofs.find.named_in_sections.Given as goal

abbrev pub invariant-loop-k : goal.invariant-loop-k
invariant-loop-k l = range_named (rows_below l.k (section_functions l.bytes l.kind)) l.name ≡ None
