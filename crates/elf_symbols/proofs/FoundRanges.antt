-- The function of a name in a file whose sections break no rule.
use Rattle.std.proofs.Common.{◌≡◌, ℕ, List, Option, Some, None, Ok, refl, sym, ap, ◌∙◌}
use Rattle.std.specs.Prelude.{ok_or}
use Rattle.elf_image.specs.declared.image.ElfFault.{ElfFault}
use Rattle.elf_image.specs.declared.range.Range.{Range}
use Rattle.elf_symbols.specs.declared.find.FindFault.TheVariants as find
use Rattle.elf_symbols.specs.Sections.{broken_sections}
use Rattle.elf_symbols.specs.Functions.{type_functions, functions_of, range_named, found_unless, function_named}
use Rattle.elf_symbols.proofs.Rows.{or_else, named_append}

-- what is no `Some` is `None`
pub none_since : {X : Type 0} (o : Option X) → ((x : X) → o ≡ Some x → ⊥) → o ≡ None
none_since None h = refl
none_since (Some x) h = absurd (h x refl)

in_row : (bytes name : List ℕ) → broken_sections bytes ≡ None
    → function_named bytes name ≡ found_unless None (or_else (range_named (type_functions bytes 2) name) (range_named (type_functions bytes 11) name))
in_row bytes name h =
    ap (λ f. found_unless f (range_named (functions_of bytes) name)) h
    ∙ ap (found_unless None) (named_append (type_functions bytes 2) (type_functions bytes 11) name)

-- one of the full table
pub found_first : (bytes name : List ℕ) (r : Range) → broken_sections bytes ≡ None → range_named (type_functions bytes 2) name ≡ Some r → function_named bytes name ≡ Ok r
found_first bytes name r h e = in_row bytes name h ∙ ap (λ o. found_unless None (or_else o (range_named (type_functions bytes 11) name))) e

as_result : (o : Option Range) → found_unless None o ≡ ok_or o find.NoFunction
as_result None = refl
as_result (Some r) = refl

-- or else one of the dynamic table, or none
pub found_second : (bytes name : List ℕ) (o : Option Range) → broken_sections bytes ≡ None → range_named (type_functions bytes 2) name ≡ None → range_named (type_functions bytes 11) name ≡ o
    → function_named bytes name ≡ ok_or o find.NoFunction
found_second bytes name o h e f =
    in_row bytes name h ∙ ap (λ p. found_unless None (or_else p (range_named (type_functions bytes 11) name))) e
    ∙ ap (found_unless None) f ∙ as_result o
