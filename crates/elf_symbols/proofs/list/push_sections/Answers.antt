use Rattle.std.proofs.Common.{add-one}
use Rattle.elf_symbols.specs.Functions.{section_functions}
use Rattle.elf_symbols.proofs.Rows.{row_added}
use Rattle.elf_symbols.proofs.list.push_sections.Goals as goal

pub loop-k-preserved : goal.loop-k-preserved
loop-k-preserved c =
    rw add-one (row_added c.args.list.now.items c.loop-k.list.items c.push_section.new.list.items c.loop-k.k
    (section_functions c.args.bytes.now c.args.kind) c.loop-k.invariant c.in_ok-push_section.ensures)
