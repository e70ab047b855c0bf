use Rattle.std.proofs.Common.{◌≡◌, None}
use Rattle.elf_image.specs.First.{first_below}
use Rattle.elf_symbols.specs.Sections.{is_section_outside}
use Rattle.elf_symbols.proofs.sections.first_outside.Given as goal

abbrev pub invariant-loop-k : goal.invariant-loop-k
invariant-loop-k l = first_below l.k (is_section_outside l.bytes) ≡ None
