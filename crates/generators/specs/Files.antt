-- Files that load some code.
use Rattle.std.specs.Prelude.{ℕ, ◌+◌, List, ◌∷◌, ◌++◌, length}
use Rattle.std.specs.Int.{w16, to_le_bytes}
use Rattle.generators.specs.Code.{word, start}

abbrev pub half : ℕ → List ℕ
half n = to_le_bytes w16 n

-- The ELF header (gABI, ELF Header): an executable for the i386 that is entered where its code begins, with one program header
-- at place 52 and no sections.
abbrev pub elf_header : List ℕ
elf_header =
    0x7F ∷ 0x45 ∷ 0x4C ∷ 0x46 ∷ 1 ∷ 1 ∷ 1 ∷ 0 ∷ 0 ∷ 0 ∷ 0 ∷ 0 ∷ 0 ∷ 0 ∷ 0 ∷ 0 ∷
    (half 2 ++ (half 3 ++ (word 1 ++ (word start ++ (word 52 ++ (word 0 ++ (word 0 ++ (half 52 ++ (half 32 ++ (half 1 ++ (half 0 ++ (half 0 ++ half 0))))))))))))

-- The program header (gABI, Program Header): a file of so many bytes is loaded at 0x08048000, to be read and executed.
abbrev pub program_header : ℕ → List ℕ
program_header size = word 1 ++ (word 0 ++ (word 0x08048000 ++ (word 0x08048000 ++ (word size ++ (word size ++ (word 5 ++ word 4096))))))

-- a file with code from place 84 on
abbrev pub file_of : List ℕ → List ℕ
file_of code = elf_header ++ (program_header (84 + length code) ++ code)
