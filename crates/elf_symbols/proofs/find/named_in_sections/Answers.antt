use Rattle.std.proofs.Common.{◌<◌, sym, subst, ◌∙◌, add-one}
use Rattle.elf_symbols.specs.Sections.{section_count}
use Rattle.elf_symbols.specs.Functions.{section_functions}
use Rattle.elf_symbols.proofs.Rows.{none_more, first_in_row}
use Rattle.elf_symbols.proofs.FoundRanges.{none_since}
use Rattle.elf_symbols.proofs.find.named_in_sections.Goals as goal

pub returns-in-Some : goal.returns-in-Some
returns-in-Some c =
    let lt : c.loop-k.k < section_count c.args.bytes.now = subst (λ n. c.loop-k.k < n) c.count-k-end.ensures.value c.loop-k-test.true in
    sym (first_in_row (section_count c.args.bytes.now) c.loop-k.k (section_functions c.args.bytes.now c.args.kind) c.args.name.now c.in-Some.range lt c.loop-k.invariant
    (sym c.named_in_section.ensures ∙ c.in-Some.is))

pub loop-k-preserved : goal.loop-k-preserved
loop-k-preserved c =
    rw add-one (none_more c.loop-k.k (section_functions c.args.bytes.now c.args.kind) c.args.name.now c.loop-k.invariant
    (sym c.named_in_section.ensures ∙ none_since c.named_in_section.result c.in_default.not-Some))
