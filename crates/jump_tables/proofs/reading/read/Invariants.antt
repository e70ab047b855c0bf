use Rattle.std.proofs.Common.{◌≡◌, ◌+◌, ◌-◌, ◌++◌, take, length}
use Rattle.elf_image.specs.Range.{frozen_from}
use Rattle.jump_tables.proofs.reading.read.Given as goal

-- the bytes so far, and then the frozen ones from here on
abbrev pub invariant-loop-k : goal.invariant-loop-k
invariant-loop-k l = record {
  long : length l.bytes ≡ 15;
  so_far : frozen_from l.m l.at l.k-end ≡ take l.k l.bytes ++ frozen_from l.m (l.at + l.k) (l.k-end - l.k);
}
