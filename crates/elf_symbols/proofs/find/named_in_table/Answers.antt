use Rattle.std.proofs.Common.{◌/◌, length, sym, ◌∙◌, add-one}
use Rattle.elf_symbols.specs.Functions.{function_at}
use Rattle.elf_symbols.proofs.Rows.{none_more, first_in_row}
use Rattle.elf_symbols.proofs.FoundRanges.{none_since}
use Rattle.elf_symbols.proofs.find.named_in_table.Goals as goal

pub returns-in-Some : goal.returns-in-Some
returns-in-Some c =
    sym (first_in_row (length c.args.table.now / 16) c.loop-j.j (function_at c.args.table.now c.args.strings.now) c.args.name.now c.in-Some.range c.loop-j-test.true c.loop-j.invariant
    (sym c.named_symbol.ensures ∙ c.in-Some.is))

pub loop-j-preserved : goal.loop-j-preserved
loop-j-preserved c =
    rw add-one (none_more c.loop-j.j (function_at c.args.table.now c.args.strings.now) c.args.name.now c.loop-j.invariant
    (sym c.named_symbol.ensures ∙ none_since c.named_symbol.result c.in_default.not-Some))
