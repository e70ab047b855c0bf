-- The sections of an ELF32 file that hold symbols (System V gABI, 'ELF Header', 'Section Header').
use Rattle.std.specs.Prelude.{ℕ, ◌+◌, ◌*◌, Bool, not, ◌&&◌, ◌||◌, ◌==◌, nat_lt, nat_le, List, [], ◌∷◌, length, take, drop, Option, Some, None}
use Rattle.elf_image.specs.declared.image.ElfFault.{ElfFault}
use Rattle.elf_image.specs.Header.{half_at, word_at}
use Rattle.elf_image.specs.First.{first_below}
use Rattle.elf_image.specs.Rules.{fault, first_rule}

-- e_shoff, e_shentsize, e_shnum
abbrev pub section_table : List ℕ → ℕ
section_table bytes = word_at bytes 32

abbrev pub section_entry_size : List ℕ → ℕ
section_entry_size bytes = half_at bytes 46

abbrev pub section_count : List ℕ → ℕ
section_count bytes = half_at bytes 48

-- the file place of section header k
abbrev pub section_place : List ℕ → ℕ → ℕ
section_place bytes k = section_table bytes + 40 * k

-- sh_type, sh_offset, sh_size, sh_link
abbrev pub section_type : List ℕ → ℕ → ℕ
section_type bytes k = word_at bytes (section_place bytes k + 4)

abbrev pub section_offset : List ℕ → ℕ → ℕ
section_offset bytes k = word_at bytes (section_place bytes k + 16)

abbrev pub section_size : List ℕ → ℕ → ℕ
section_size bytes k = word_at bytes (section_place bytes k + 20)

abbrev pub section_link : List ℕ → ℕ → ℕ
section_link bytes k = word_at bytes (section_place bytes k + 24)

-- the bytes of section k
abbrev pub section_bytes : List ℕ → ℕ → List ℕ
section_bytes bytes k = take (section_size bytes k) (drop (section_offset bytes k) bytes)

-- sh_type is SHT_SYMTAB or SHT_DYNSYM
abbrev pub holds_symbols : List ℕ → ℕ → Bool
holds_symbols bytes k = section_type bytes k == 2 || section_type bytes k == 11

-- The bytes of section k pass the file's end.
abbrev pub passes_end : List ℕ → ℕ → Bool
passes_end bytes k = nat_lt (length bytes) (section_offset bytes k + section_size bytes k)

-- The bytes of a symbol section pass the file's end, or no section has the number of its string section, or the bytes
-- of that one pass the file's end.
abbrev pub is_section_outside : List ℕ → ℕ → Bool
is_section_outside bytes k =
    holds_symbols bytes k
    && (passes_end bytes k || (nat_le (section_count bytes) (section_link bytes k) || passes_end bytes (section_link bytes k)))

-- a fault at the header of a section
abbrev pub section_fault : List ℕ → Option ℕ → Option ElfFault
section_fault bytes None = None
section_fault bytes (Some k) = Some (fault 12 (section_place bytes k))

-- The file has no ELF header, its section headers have another size than 40, or their table passes the file's end.
-- (A file that has an image has an ELF header.)
abbrev pub section_rules : List ℕ → List (Bool × ElfFault)
section_rules bytes =
    (nat_lt (length bytes) 52, fault 1 (length bytes))
    ∷ (not (section_count bytes == 0) && not (section_entry_size bytes == 40), fault 12 46)
    ∷ (nat_lt (length bytes) (section_table bytes + 40 * section_count bytes), fault 12 32)
    ∷ []

-- SectionOutside: the rules of the table, and then the first symbol section that is outside
abbrev pub broken_sections : List ℕ → Option ElfFault
broken_sections bytes =
    first_rule (section_rules bytes) (section_fault bytes (first_below (section_count bytes) (is_section_outside bytes)))
