use Rattle.std.proofs.Common.{◌≡◌, None, sym, ◌∙◌}
use Rattle.elf_symbols.specs.Sections.{broken_sections}
use Rattle.elf_symbols.proofs.FoundRanges.{none_since, found_first, found_second}
use Rattle.elf_symbols.proofs.find.function_named.Goals as goal

pub returns-in-Some-named_in_sections : goal.returns-in-Some-named_in_sections
returns-in-Some-named_in_sections c =
    let whole : broken_sections c.args.bytes.now ≡ None = sym c.broken_sections.ensures ∙ none_since c.broken_sections.result c.in_default.not-Some in
    sym (found_first c.args.bytes.now c.args.name.now c.in-Some-named_in_sections.range whole (sym c.named_in_sections.ensures ∙ c.in-Some-named_in_sections.is))

pub returns : goal.returns
returns c =
    let whole : broken_sections c.args.bytes.now ≡ None = sym c.broken_sections.ensures ∙ none_since c.broken_sections.result c.in_default.not-Some in
    c.ok_or.ensures.value
    ∙ sym (found_second c.args.bytes.now c.args.name.now c.named_in_sections-2.result whole
    (sym c.named_in_sections.ensures ∙ none_since c.named_in_sections.result c.in_default-named_in_sections.not-Some) (sym c.named_in_sections-2.ensures))
