use Rattle.std.proofs.Common.{◌≡◌, drop}
use Rattle.elf_image.specs.Layout.{AreLaidOut}
use Rattle.dream_words.specs.Memory.{no_bytes}
use Rattle.machine.proofs.Placed.{placed}
use Rattle.machine.proofs.memory.start_memory.Given as goal

-- The bytes of the segments that are left lead to those of all.
abbrev pub invariant-loop-s : goal.invariant-loop-s
invariant-loop-s l = AreLaidOut (drop l.s-index l.s-items) × (placed l.mem (drop l.s-index l.s-items) ≡ placed no_bytes l.s-items)
