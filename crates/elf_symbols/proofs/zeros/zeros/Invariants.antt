use Rattle.std.proofs.Common.{◌≡◌, ◌*◌}
use Rattle.elf_symbols.specs.Zeros.{after_zero as after_zero_of, zeros_below}
use Rattle.elf_symbols.proofs.zeros.zeros.Given as goal

abbrev pub invariant-loop-k : goal.invariant-loop-k
invariant-loop-k l = (l.last ≡ after_zero_of l.bytes (256 * l.k)) × (l.zeros.items ≡ zeros_below l.bytes l.k)
