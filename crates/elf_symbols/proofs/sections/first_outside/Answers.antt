use Rattle.std.proofs.Common.{◌≡◌, ◌<◌, sym, ◌∙◌, subst, arith}
use Rattle.elf_symbols.specs.Sections.{section_count, is_section_outside}
use Rattle.elf_symbols.proofs.SectionFacts.{first_is}
use Rattle.elf_symbols.proofs.sections.first_outside.Goals as goal

pub returns-then-is_outside-clause-value : goal.returns-then-is_outside-clause-value
returns-then-is_outside-clause-value c =
    let lt : c.loop-k.k < section_count c.args.bytes.now = subst (λ n. c.loop-k.k < n) c.count-k-end.ensures.value c.loop-k-test.true in
    sym (first_is (section_count c.args.bytes.now) c.loop-k.k (is_section_outside c.args.bytes.now) lt c.loop-k.invariant (sym c.is_outside.ensures ∙ c.if-is_outside.true))
