use Rattle.std.proofs.Common.{◌≡◌, take, drop}
use Rattle.elf_symbols.specs.Symbols.{ended}
use Rattle.elf_symbols.proofs.EndedNames.{after_front}
use Rattle.elf_symbols.proofs.names.name.Given as goal

abbrev pub invariant-loop-i : goal.invariant-loop-i
invariant-loop-i l = after_front (take l.i l.bytes) (ended (drop l.i l.bytes)) ≡ ended l.bytes
