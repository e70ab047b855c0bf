-- The symbols of a symbol section and their names (System V gABI, 'Symbol Table' and 'String Table').
use Rattle.std.specs.Prelude.{ℕ, zero, suc, ◌+◌, ◌*◌, ◌%◌, Bool, not, ◌&&◌, ◌==◌, false, bytes_eq, List, [], ◌∷◌, drop, slice_index, Option, Some, None, option_map}
use Rattle.elf_image.specs.declared.range.Range.{Range}
use Rattle.elf_image.specs.Header.{half_at, word_at}
use Rattle.elf_image.specs.Range.{range}

-- symbol j of a section's bytes: st_name, st_value, st_size, st_info, st_shndx
abbrev pub symbol_name : List ℕ → ℕ → ℕ
symbol_name table j = word_at table (16 * j)

abbrev pub symbol_value : List ℕ → ℕ → ℕ
symbol_value table j = word_at table (16 * j + 4)

abbrev pub symbol_size : List ℕ → ℕ → ℕ
symbol_size table j = word_at table (16 * j + 8)

abbrev pub symbol_info : List ℕ → ℕ → ℕ
symbol_info table j = slice_index table (16 * j + 12)

abbrev pub symbol_section : List ℕ → ℕ → ℕ
symbol_section table j = half_at table (16 * j + 14)

-- The type is STT_FUNC, and the section isn't SHN_UNDEF.
abbrev pub is_function : List ℕ → ℕ → Bool
is_function table j = symbol_info table j % 16 == 2 && not (symbol_section table j == 0)

-- st_value and st_size
abbrev pub symbol_range : List ℕ → ℕ → Range
symbol_range table j = range (symbol_value table j) (symbol_size table j)

-- the bytes before the first zero byte, if there is one
abbrev pub ended : List ℕ → Option (List ℕ)
ended [] = None
ended (zero ∷ bytes) = Some []
ended (suc b ∷ bytes) = option_map (λ name. suc b ∷ name) (ended bytes)

-- The name of symbol j begins at its place of the string table and is ended there by a zero byte.
abbrev pub name_of : List ℕ → List ℕ → ℕ → Option (List ℕ)
name_of table strings j = ended (drop (symbol_name table j) strings)

-- there is a name, and it is this one
abbrev pub is_name : Option (List ℕ) → List ℕ → Bool
is_name None name = false
is_name (Some n) name = bytes_eq n name
