use Rattle.std.proofs.Common.{◌≡◌, None}
use Rattle.elf_symbols.specs.Functions.{rows_below, function_at, range_named}
use Rattle.elf_symbols.proofs.find.named_in_table.Given as goal

abbrev pub invariant-loop-j : goal.invariant-loop-j
invariant-loop-j l = range_named (rows_below l.j (function_at l.table l.strings)) l.name ≡ None
