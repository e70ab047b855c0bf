-- What is accepted in a file: eleven kinds of fault, of which the first counts. A kind that several headers break is
-- reported at the first of them.
use Rattle.std.specs.Prelude.{ℕ, ◌+◌, ◌*◌, ◌^◌, Bool, not, ◌&&◌, ◌||◌, ◌==◌, nat_lt, min, max, List, [], ◌∷◌, length, slice_index, Option, Some, None, is_some, if◌then◌else◌}
use Rattle.elf_image.specs.declared.image.ElfFault.{ElfFault}
use Rattle.elf_image.specs.First.{first_below}
use Rattle.elf_image.specs.Header.{file_type, machine, table_offset, entry_size, entry_count, header_place, is_load, offset_of, address_of, file_size_of, size_of}

abbrev pub fault : ℕ → ℕ → ElfFault
fault kind at = record { kind = kind; at = at }

-- The file bytes of a segment pass the file's end or the segment's, or the segment passes the last address.
abbrev pub is_outside : List ℕ → ℕ → Bool
is_outside bytes k =
    is_load bytes k
    && (nat_lt (length bytes) (offset_of bytes k + file_size_of bytes k)
    || (nat_lt (size_of bytes k) (file_size_of bytes k) || nat_lt (2 ^ 32) (address_of bytes k + size_of bytes k)))

-- segments j and k have an address in common
abbrev pub meets : List ℕ → ℕ → ℕ → Bool
meets bytes k j =
    is_load bytes j
    && nat_lt (max (address_of bytes j) (address_of bytes k)) (min (address_of bytes j + size_of bytes j) (address_of bytes k + size_of bytes k))

-- a segment has an address in common with an earlier one
abbrev pub is_overlapping : List ℕ → ℕ → Bool
is_overlapping bytes k = is_load bytes k && is_some (first_below k (meets bytes k))

-- a fault at the first header that passes a test
abbrev pub fault_at : List ℕ → ℕ → Option ℕ → Option ElfFault → Option ElfFault
fault_at bytes kind None other = other
fault_at bytes kind (Some k) other = Some (fault kind (header_place bytes k))

-- the fault of the first test that holds, or else the other
abbrev pub first_rule : List (Bool × ElfFault) → Option ElfFault → Option ElfFault
first_rule [] other = other
first_rule (rule ∷ rules) other = if rule.0 then Some rule.1 else first_rule rules other

-- e_ident begins with `7F 45 4C 46`
abbrev pub is_elf : List ℕ → Bool
is_elf bytes = slice_index bytes 0 == 0x7f && (slice_index bytes 1 == 0x45 && (slice_index bytes 2 == 0x4c && slice_index bytes 3 == 0x46))

-- SegmentOutside, then Overlap
abbrev pub headers_fault : List ℕ → Option ElfFault
headers_fault bytes =
    fault_at bytes 10 (first_below (entry_count bytes) (is_outside bytes))
    (fault_at bytes 11 (first_below (entry_count bytes) (is_overlapping bytes)) None)

-- Short, Magic, Class, Order, Version, Type, Machine, EntrySize and TableOutside, in their order
abbrev pub header_rules : List ℕ → List (Bool × ElfFault)
header_rules bytes =
    (nat_lt (length bytes) 52, fault 1 (length bytes))
    ∷ (not (is_elf bytes), fault 2 0)
    ∷ (not (slice_index bytes 4 == 1), fault 3 4)
    ∷ (not (slice_index bytes 5 == 1), fault 4 5)
    ∷ (not (slice_index bytes 6 == 1), fault 5 6)
    ∷ (not (file_type bytes == 2) && not (file_type bytes == 3), fault 6 16)
    ∷ (not (machine bytes == 3), fault 7 18)
    ∷ (not (entry_count bytes == 0) && not (entry_size bytes == 32), fault 8 42)
    ∷ (entry_count bytes == 65535, fault 9 44)
    ∷ (nat_lt (length bytes) (table_offset bytes + 32 * entry_count bytes), fault 9 28)
    ∷ []

-- the first kind that is broken, and where
abbrev pub first_broken : List ℕ → Option ElfFault
first_broken bytes = first_rule (header_rules bytes) (headers_fault bytes)
