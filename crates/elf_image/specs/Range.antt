-- The addresses of a function, and its code.
use Rattle.std.specs.Prelude.{ℕ, zero, suc, ◌+◌, ◌-◌, ◌^◌, min, Bool, ◌&&◌, nat_le, nat_lt, List, [], ◌∷◌, Option, Some, None, if◌then◌else◌}
use Rattle.elf_image.specs.declared.image.Segment.{Segment}
use Rattle.elf_image.specs.declared.range.Range.{Range}
use Rattle.elf_image.specs.Image.{frozen_byte}

abbrev pub range : ℕ → ℕ → Range
range entry size = record { entry = entry; size = size }

-- an address of the range, in whole numbers
abbrev pub is_inside : Range → ℕ → Bool
is_inside r a = nat_le r.entry a && nat_lt a (r.entry + r.size)

-- a byte, if there is one, and the bytes after it
abbrev pub before_some : Option ℕ → List ℕ → List ℕ
before_some None rest = []
before_some (Some b) rest = b ∷ rest

-- the frozen bytes from an address on: at most k, and up to the first that isn't frozen
abbrev pub frozen_from : List Segment → ℕ → ℕ → List ℕ
frozen_from m a zero = []
frozen_from m a (suc k) = before_some (frozen_byte m a) (frozen_from m (a + 1) k)

-- The bytes from an address up to the range's end: those up to the first address that isn't inside or isn't frozen,
-- and none past 0xffffffff.
abbrev pub bytes_to_end : List Segment → Range → ℕ → List ℕ
bytes_to_end m r a = frozen_from m a (if is_inside r a then min (r.entry + r.size) (2 ^ 32) - a else 0)
