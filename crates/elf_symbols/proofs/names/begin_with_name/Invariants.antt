use Rattle.std.proofs.Common.{◌≡◌, drop}
use Rattle.elf_symbols.specs.Symbols.{ended, is_name}
use Rattle.elf_symbols.proofs.names.begin_with_name.Given as goal

abbrev pub invariant-loop-i : goal.invariant-loop-i
invariant-loop-i l = is_name (ended (drop l.i l.bytes)) (drop l.i l.name) ≡ is_name (ended l.bytes) l.name
