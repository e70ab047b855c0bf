-- Which bytes must stay, one at a time, and when a store changes one.
use Rattle.std.specs.Prelude.{ℕ, zero, suc, ◌+◌, ◌-◌, ◌/◌, ◌%◌, ◌^◌, nat_lt, Bool, false, not, ◌&&◌, ◌||◌, ◌==◌, List, is_some}
use Rattle.elf_image.specs.declared.image.Segment.{Segment}
use Rattle.elf_image.specs.Image.{frozen_byte}
use Rattle.dream_words.specs.Memory.{Mem, byte_at}

-- the byte at an address must stay: it is frozen, or one of the four of the return slot, which begins at s
abbrev pub is_held : List Segment → ℕ → ℕ → Bool
is_held m s a = is_some (frozen_byte m a) || nat_lt ((a + (2 ^ 32 - s)) % 2 ^ 32) 4

-- a byte that must stay would be another
abbrev pub changes : List Segment → ℕ → Mem → ℕ → ℕ → Bool
changes m s old a v = is_held m s a && not (byte_at old a == v)

-- one of the low k bytes of a word would be so at its address
abbrev pub store_changes : List Segment → ℕ → Mem → ℕ → ℕ → ℕ → Bool
store_changes m s old a zero v = false
store_changes m s old a (suc k) v = changes m s old (a % 2 ^ 32) (v % 256) || store_changes m s old (a + 1) k (v / 256)
