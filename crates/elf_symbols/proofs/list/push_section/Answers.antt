use Rattle.std.proofs.Common.{◌≡◌, ◌<◌, sym, subst, ◌∙◌, false}
use Rattle.elf_symbols.specs.Sections.{section_count, passes_end}
use Rattle.elf_symbols.proofs.SectionFacts.{are_inside, place_inside}
use Rattle.elf_symbols.proofs.list.push_section.Goals as goal

pub end_of_names-names-requires-clause-table : goal.end_of_names-names-requires-clause-table
end_of_names-names-requires-clause-table c =
    let inside = are_inside c.args.bytes.now c.args.k c.args.kind c.requires.sections c.requires.within c.requires.kinds (sym c.section_type.ensures ∙ c.if-section_type-kind.true) in
    place_inside c.args.bytes.now c.section_link-link.result c.requires.sections (subst (λ n. n < section_count c.args.bytes.now) (sym c.section_link-link.ensures) inside.link)

pub end_of_names-names-requires-clause-inside : goal.end_of_names-names-requires-clause-inside
end_of_names-names-requires-clause-inside c =
    let inside = are_inside c.args.bytes.now c.args.k c.args.kind c.requires.sections c.requires.within c.requires.kinds (sym c.section_type.ensures ∙ c.if-section_type-kind.true) in
    subst (λ n. passes_end c.args.bytes.now n ≡ false) (sym c.section_link-link.ensures) inside.strings

pub section-requires-clause-inside : goal.section-requires-clause-inside
section-requires-clause-inside c =
    (are_inside c.args.bytes.now c.args.k c.args.kind c.requires.sections c.requires.within c.requires.kinds (sym c.section_type.ensures ∙ c.if-section_type-kind.true)).symbols

pub section-requires-then-section_type-kind-clause-table : goal.section-requires-then-section_type-kind-clause-table
section-requires-then-section_type-kind-clause-table c =
    let inside = are_inside c.args.bytes.now c.args.k c.args.kind c.requires.sections c.requires.within c.requires.kinds (sym c.section_type.ensures ∙ c.if-section_type-kind.true) in
    place_inside c.args.bytes.now c.section_link-link.result c.requires.sections (subst (λ n. n < section_count c.args.bytes.now) (sym c.section_link-link.ensures) inside.link)

pub section-requires-then-section_type-kind-clause-inside : goal.section-requires-then-section_type-kind-clause-inside
section-requires-then-section_type-kind-clause-inside c =
    let inside = are_inside c.args.bytes.now c.args.k c.args.kind c.requires.sections c.requires.within c.requires.kinds (sym c.section_type.ensures ∙ c.if-section_type-kind.true) in
    subst (λ n. passes_end c.args.bytes.now n ≡ false) (sym c.section_link-link.ensures) inside.strings
