use Rattle.std.proofs.Common.{◌≡◌, ◌≤◌, ◌++◌, [], sym, ap, subst, ◌∙◌, append-nil}
use Rattle.std.specs.Prelude.{if◌then◌else◌}
use Rattle.elf_symbols.specs.Symbols.{symbol_name, symbol_range, name_of}
use Rattle.elf_symbols.specs.Functions.{under_name, function_at}
use Rattle.elf_symbols.proofs.LastZeros.{no_function}
use Rattle.elf_symbols.proofs.list.push_symbol.Goals.{else-is_function-via-then-is_function+else-name_place-names, else-is_function-via-else-is_function}
use Rattle.elf_symbols.proofs.list.push_symbol.Goals as goal

pub returns-else-is_function : goal.returns-else-is_function
returns-else-is_function c =
    let table = c.args.table.now in
    let strings = c.args.strings.now in
    let none : function_at table strings c.args.j ≡ [] = elim c.else-is_function.branch [
      | else-is_function-via-then-is_function+else-name_place-names w ↦
          no_function table strings c.args.names c.args.j c.requires.names (subst (λ n. c.args.names ≤ n) w.name_place.ensures w.if-name_place-names.false)
      | else-is_function-via-else-is_function w ↦
          ap (λ b. if b then under_name (name_of table strings c.args.j) (symbol_range table c.args.j) else []) (sym c.is_function.ensures ∙ w.if-is_function.false)
    ] in
    sym (ap (λ l. c.args.list.now.items ++ l) none ∙ append-nil c.args.list.now.items)
