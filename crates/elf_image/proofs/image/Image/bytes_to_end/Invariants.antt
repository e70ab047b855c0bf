use Rattle.std.proofs.Common.{◌≡◌, ◌++◌, ◌+◌, ◌-◌}
use Rattle.elf_image.specs.Range.{frozen_from}
use Rattle.elf_image.proofs.image.Image.bytes_to_end.Given as goal

-- the bytes so far, and then the frozen ones from here on
abbrev pub invariant-loop-k : goal.invariant-loop-k
invariant-loop-k l = frozen_from l.self l.at l.k-end ≡ l.bytes.items ++ frozen_from l.self (l.at + l.k) (l.k-end - l.k)
