use Rattle.std.proofs.Common.{◌≡◌, drop}
use Rattle.elf_image.specs.Image.{backed_byte}
use Rattle.elf_image.proofs.image.backed_in.Given as goal

abbrev pub invariant-loop-s : goal.invariant-loop-s
invariant-loop-s l = backed_byte (drop l.s-index l.segments) l.a ≡ backed_byte l.segments l.a
