-- The code of generated files: nests of loops, ladders of branches, and drills.
use Rattle.std.specs.Prelude.{ℕ, zero, suc, ◌+◌, ◌-◌, ◌*◌, ◌/◌, ◌%◌, ◌^◌, ◌==◌, if◌then◌else◌, List, [], ◌∷◌, ◌++◌, length}
use Rattle.std.specs.Int.{w32, to_le_bytes}
use Rattle.elf_image.specs.declared.range.Range.{Range}
use Rattle.elf_image.specs.Range.{range}

-- a number modulo 2^32 in four bytes, the lowest first
abbrev pub word : ℕ → List ℕ
word n = to_le_bytes w32 (n % 2 ^ 32)

-- the same bytes so many times
abbrev pub times : ℕ → List ℕ → List ℕ
times zero bytes = []
times (suc n) bytes = times n bytes ++ bytes

-- ---- nests

-- `test al, 1` and `jne` over the distance -9 j
abbrev pub nest_end : ℕ → List ℕ
nest_end j = 0xA8 ∷ 0x01 ∷ 0x0F ∷ 0x85 ∷ word (2 ^ 32 - 9 * j)

-- those of 1 to d
abbrev pub nest_ends : ℕ → List ℕ
nest_ends zero = []
nest_ends (suc d) = nest_ends d ++ nest_end (suc d)

-- d times `inc eax`, the ends of d loops, the inmost first, and `ret`
abbrev pub nest : ℕ → List ℕ
nest d = times d (0x40 ∷ []) ++ (nest_ends d ++ 0xC3 ∷ [])

-- ---- ladders

-- Two branches, and two jumps: to the next rung, or to the second end past all of them.
abbrev pub rung : List ℕ
rung = 0x40 ∷ 0xA8 ∷ 0x01 ∷ 0x75 ∷ 0x11 ∷ 0xEB ∷ 0x08 ∷ 0x41 ∷ 0xF6 ∷ 0xC1 ∷ 0x01 ∷ 0x75 ∷ 0x02 ∷ 0xEB ∷ 0x07 ∷ []

abbrev pub ladder_end : List ℕ
ladder_end = 0xC3 ∷ 0x90 ∷ 0x90 ∷ 0x90 ∷ 0x90 ∷ 0x90 ∷ 0x90 ∷ 0xC3 ∷ []

abbrev pub ladder : ℕ → List ℕ
ladder d = times d rung ++ ladder_end

-- ---- drills

-- the absolute value of an argument
abbrev pub absolute : List ℕ
absolute = 0x8B ∷ 0x44 ∷ 0x24 ∷ 0x04 ∷ 0x85 ∷ 0xC0 ∷ 0x79 ∷ 0x02 ∷ 0xF7 ∷ 0xD8 ∷ 0xC3 ∷ []

-- the sum of the numbers from an argument down to 1
abbrev pub summed : List ℕ
summed = 0x31 ∷ 0xC0 ∷ 0x8B ∷ 0x4C ∷ 0x24 ∷ 0x04 ∷ 0x01 ∷ 0xC8 ∷ 0x49 ∷ 0x75 ∷ 0xFB ∷ 0xC3 ∷ []

-- a cycle that is entered at two places
abbrev pub entered_twice : List ℕ
entered_twice = 0x85 ∷ 0xC0 ∷ 0x74 ∷ 0x01 ∷ 0x48 ∷ 0x49 ∷ 0x75 ∷ 0xFC ∷ 0xC3 ∷ []

-- a constant
abbrev pub constant : ℕ → List ℕ
constant k = 0xB8 ∷ (word k ++ 0xC3 ∷ [])

-- a call of 0x08047000 with a pushed argument, at an address
abbrev pub caller : ℕ → List ℕ
caller at = 0x50 ∷ 0xE8 ∷ (word (2 ^ 32 + 0x08047000 - (at + 6)) ++ 0x59 ∷ 0xC3 ∷ [])

-- a switch by a table, at an address, and after its range the table
abbrev pub switcher : ℕ → List ℕ
switcher at = 0x83 ∷ 0xF8 ∷ 0x02 ∷ 0x77 ∷ 0x07 ∷ 0xFF ∷ 0x24 ∷ 0x85 ∷ (word (at + 15) ++ 0x31 ∷ 0xC0 ∷ 0xC3 ∷ [])

abbrev pub table : ℕ → List ℕ
table at = word (at + 12) ++ (word (at + 14) ++ word (at + 12))

-- The code of function k at an address, by k modulo 8. With q = k / 8, a nest has 1 + q modulo 8 loops and a ladder 2 + q modulo
-- 4 rungs.
abbrev pub function_code : ℕ → ℕ → List ℕ
function_code k at = let kind = k % 8 in
    if kind == 0 then constant k else
    (if kind == 1 then absolute else
    (if kind == 2 then summed else
    (if kind == 3 then entered_twice else
    (if kind == 4 then nest (1 + k / 8 % 8) else
    (if kind == 5 then caller at else
    (if kind == 6 then ladder (2 + k / 8 % 4) else switcher at))))))

-- what comes after the code: the table of a switch
abbrev pub function_table : ℕ → ℕ → List ℕ
function_table k at = if k % 8 == 7 then table at else []

-- all bytes of function k
abbrev pub piece : ℕ → ℕ → List ℕ
piece k at = function_code k at ++ function_table k at

-- where the pieces begin
abbrev pub start : ℕ
start = 0x08048054

-- the pieces of functions 0 to n - 1, without gaps
abbrev pub pieces : ℕ → List ℕ
pieces zero = []
pieces (suc n) = pieces n ++ piece n (start + length (pieces n))

-- their ranges
abbrev pub ranges : ℕ → List Range
ranges zero = []
ranges (suc n) = let at = start + length (pieces n) in ranges n ++ range at (length (function_code n at)) ∷ []
