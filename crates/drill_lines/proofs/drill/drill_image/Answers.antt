use Rattle.std.proofs.Common.{sym, ap, ◌∙◌}
use Rattle.elf_image.specs.Image.{image_of}
use Rattle.drill_lines.proofs.Imaged.{never_refused}
use Rattle.drill_lines.proofs.drill.drill_image.Goals as goal

pub returns-in-Ok : goal.returns-in-Ok
returns-in-Ok c = ap image_of (sym (c.deref.ensures.value ∙ c.in_ok-file.ensures)) ∙ c.in-Ok.ensures

pub unreachable-requires : goal.unreachable-requires
unreachable-requires c =
    never_refused c.args.n c.deref.result.now c.in-Err-Elf._fault c.requires.some c.requires.few (c.deref.ensures.value ∙ c.in_ok-file.ensures) (rw c.in-Err-Elf.field-0-is at c.in-Err-Elf.ensures)
