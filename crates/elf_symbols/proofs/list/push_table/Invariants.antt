use Rattle.std.proofs.Common.{◌≡◌, ◌++◌}
use Rattle.elf_symbols.specs.Functions.{rows_below, function_at}
use Rattle.elf_symbols.proofs.list.push_table.Given as goal

abbrev pub invariant-loop-j : goal.invariant-loop-j
invariant-loop-j l = l.list.items ≡ l.initial.list.items ++ rows_below l.j (function_at l.table l.strings)
