-- How the segments of an image lie: below 2^32, and apart.
use Rattle.std.specs.Prelude.{ℕ, ◌+◌, ◌^◌, ◌<◌, ◌≤◌, List, [], ◌∷◌, length}
use Rattle.elf_image.specs.declared.image.Segment.{Segment}

-- The segment ends at 2^32 or before, and the file gives no more bytes than it has.
pub record IsPlaced (s : Segment) : Type 0 where
  pub within : s.at + s.size ≤ 2 ^ 32
  pub given : length s.bytes ≤ s.size

-- no address lies in both segments
abbrev pub AreApart : Segment → Segment → Type 0
AreApart s t = (a : ℕ) → s.at ≤ a → a < s.at + s.size → t.at ≤ a → a < t.at + t.size → ⊥

-- a segment lies apart from each of some
abbrev pub IsApartFrom : Segment → List Segment → Type 0
IsApartFrom s [] = Unit {0}
IsApartFrom s (t ∷ ts) = AreApart s t × IsApartFrom s ts

-- Each segment is placed, and each two lie apart.
abbrev pub AreLaidOut : List Segment → Type 0
AreLaidOut [] = Unit {0}
AreLaidOut (s ∷ ss) = IsPlaced s × IsApartFrom s ss × AreLaidOut ss
