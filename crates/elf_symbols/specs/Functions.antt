-- The functions that a file's symbols name.
use Rattle.std.specs.Prelude.{◌≡◌, ℕ, zero, suc, ◌/◌, Bool, ◌==◌, bytes_eq, List, [], ◌∷◌, ◌++◌, length, Option, Some, None, Result, Ok, Err, if◌then◌else◌}
use Rattle.elf_image.specs.declared.image.ElfFault.{ElfFault}
use Rattle.elf_image.specs.declared.range.Range.{Range}
use Rattle.elf_symbols.specs.declared.find.FindFault.{FindFault}
use Rattle.elf_symbols.specs.declared.find.FindFault.TheVariants as find
use Rattle.elf_symbols.specs.declared.named.Named.{Named}
use Rattle.elf_symbols.specs.declared.list.ListFault.{ListFault}
use Rattle.elf_symbols.specs.declared.list.ListFault.TheVariants as listed
use Rattle.elf_symbols.specs.Sections.{section_count, section_type, section_link, section_bytes, broken_sections}
use Rattle.elf_symbols.specs.Symbols.{is_function, name_of, symbol_range}

-- what f gives of 0, 1 and on below n, in a row
abbrev pub rows_below : {X : Type 0} → ℕ → (ℕ → List X) → List X
rows_below zero f = []
rows_below (suc n) f = rows_below n f ++ f n

-- a range under a name, if there is a name
abbrev pub under_name : Option (List ℕ) → Range → List Named
under_name None r = []
under_name (Some name) r = record { name = name; range = r } ∷ []

-- symbol j, if it is a function that is defined and has a name
abbrev pub function_at : List ℕ → List ℕ → ℕ → List Named
function_at table strings j = if is_function table j then under_name (name_of table strings j) (symbol_range table j) else []

-- the functions of a symbol section; bytes past the last whole symbol are none
abbrev pub functions_in : List ℕ → List ℕ → List Named
functions_in table strings = rows_below (length table / 16) (function_at table strings)

-- the functions of section k, if it has the type
abbrev pub section_functions : List ℕ → ℕ → ℕ → List Named
section_functions bytes type k =
    if section_type bytes k == type then functions_in (section_bytes bytes k) (section_bytes bytes (section_link bytes k)) else []

-- the functions of the sections of a type, in the order of the table
abbrev pub type_functions : List ℕ → ℕ → List Named
type_functions bytes type = rows_below (section_count bytes) (section_functions bytes type)

-- the functions of a file: those of SHT_SYMTAB, then those of SHT_DYNSYM
abbrev pub functions_of : List ℕ → List Named
functions_of bytes = type_functions bytes 2 ++ type_functions bytes 11

-- the range of the first function of a name
abbrev pub range_named : List Named → List ℕ → Option Range
range_named [] name = None
range_named (f ∷ fs) name = if bytes_eq f.name name then Some f.range else range_named fs name

-- a range that is found, or why there is none: a fault of the file comes first
abbrev pub found_unless : Option ElfFault → Option Range → Result Range FindFault
found_unless (Some f) found = Err (find.Elf f)
found_unless None None = Err find.NoFunction
found_unless None (Some r) = Ok r

-- the function of a name
abbrev pub function_named : List ℕ → List ℕ → Result Range FindFault
function_named bytes name = found_unless (broken_sections bytes) (range_named (functions_of bytes) name)

-- the functions of a file whose sections break no rule
abbrev pub functions_unless : List ℕ → Result (List Named) ElfFault
functions_unless bytes = listed_unless (broken_sections bytes) where
  listed_unless : Option ElfFault → Result (List Named) ElfFault
  listed_unless None = Ok (functions_of bytes)
  listed_unless (Some f) = Err f

-- A fault of the file is the one that its sections have; memory may run out at any time.
abbrev pub ListFails : Result (List Named) ElfFault → ListFault → Type 0
ListFails functions (listed.Elf f) = functions ≡ Err f
ListFails functions listed.Memory = Unit {0}
