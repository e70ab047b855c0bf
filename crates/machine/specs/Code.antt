-- The instructions of a range, and which bytes must stay.
use Rattle.std.specs.Prelude.{◌≡◌, ℕ, zero, suc, ◌+◌, ◌%◌, ◌^◌, ◌≤◌, Bool, true, not, ◌&&◌, ◌||◌, ◌==◌, List, length, take, Option, Some, None}
use Rattle.std.specs.List.{list_all}
use Rattle.elf_image.specs.declared.image.Segment.{Segment}
use Rattle.elf_image.specs.declared.range.Range.{Range}
use Rattle.elf_image.specs.Range.{bytes_to_end}
use Rattle.dream_words.specs.Memory.{Mem, byte_at}
use Rattle.x86_inst.specs.declared.Inst.{Inst}
use Rattle.x86_inst.specs.Spelling.{Spells}

-- The bytes from an address up to the range's end begin with the instruction, of n bytes.
pub record BeginsAt (m : List Segment) (r : Range) (a : ℕ) (i : Inst) (n : ℕ) : Type 0 where
  pub within : n ≤ length (bytes_to_end m r a)
  pub spelled : Spells (take n (bytes_to_end m r a)) i

-- At each address the machine finds the instruction that the bytes from there on begin with, and its length, or none
-- where they begin with none.
pub record Decodes (m : List Segment) (r : Range) (decoded : ℕ → Option (Inst × ℕ)) : Type 0 where
  pub found : (a : ℕ) (i : Inst) (n : ℕ) → decoded a ≡ Some (i, n) → BeginsAt m r a i n
  pub none : (a : ℕ) (i : Inst) (n : ℕ) → decoded a ≡ None → BeginsAt m r a i n → ⊥

-- a test holds of each number below n
abbrev pub all_below : ℕ → (ℕ → Bool) → Bool
all_below zero test = true
all_below (suc n) test = all_below n test && test n

-- each byte that the file gives, in a segment that can't be written, is the same in both memories
abbrev pub keeps_frozen : List Segment → Mem → Mem → Bool
keeps_frozen m old new = list_all (λ s. s.writable || all_below (length s.bytes) (λ k. byte_at old (s.at + k) == byte_at new (s.at + k))) m

-- so are the four bytes of the return slot, which begins at s
abbrev pub keeps_slot : ℕ → Mem → Mem → Bool
keeps_slot s old new =
    byte_at old (s % 2 ^ 32) == byte_at new (s % 2 ^ 32) && (byte_at old ((s + 1) % 2 ^ 32) == byte_at new ((s + 1) % 2 ^ 32)
    && (byte_at old ((s + 2) % 2 ^ 32) == byte_at new ((s + 2) % 2 ^ 32) && byte_at old ((s + 3) % 2 ^ 32) == byte_at new ((s + 3) % 2 ^ 32)))

-- a frozen byte or one of the slot is another than before
abbrev pub is_broken : List Segment → ℕ → Mem → Mem → Bool
is_broken m s old new = not (keeps_frozen m old new && keeps_slot s old new)
