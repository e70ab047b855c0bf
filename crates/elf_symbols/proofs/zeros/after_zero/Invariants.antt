use Rattle.std.proofs.Common.{◌≡◌}
use Rattle.elf_symbols.specs.Zeros.{after_zero as after_zero_of}
use Rattle.elf_symbols.proofs.zeros.after_zero.Given as goal

abbrev pub invariant-loop-p : goal.invariant-loop-p
invariant-loop-p l = l.last ≡ after_zero_of l.bytes l.p
