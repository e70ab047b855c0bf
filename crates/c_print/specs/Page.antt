-- A page: it counts the bytes of a text, and keeps those that it has room for.
use Rattle.std.specs.Prelude.{ℕ, ◌+◌, ◌-◌, ◌^◌, min, List, [], ◌∷◌, ◌++◌, length, Option, Some, None, option_map, if◌then◌else◌, nat_lt}

-- What a page shows: how many bytes were put, 2 ^ 64 - 1 standing for that many and more; how many it has room for; and
-- those that it keeps, if it is one that keeps them.
pub record Shown : Type 0 where
  pub count : ℕ
  pub room : ℕ
  pub kept : Option (List ℕ)

-- a page that only counts, before anything is put
abbrev pub counting_page : Shown
counting_page = record { count = 0; room = 0; kept = None }

-- a page that keeps up to so many bytes, before anything is put
abbrev pub keeping_page : ℕ → Shown
keeping_page room = record { count = 0; room = room; kept = Some [] }

-- the bytes that are kept, with one more where there is room
abbrev pub kept_with : ℕ → ℕ → List ℕ → List ℕ
kept_with room b kept = if nat_lt (length kept) room then kept ++ b ∷ [] else kept

-- a page on which one more byte is put
unfoldable pub with_byte : Shown → ℕ → Shown
with_byte s b = record { count = min (s.count + 1) (2 ^ 64 - 1); room = s.room; kept = option_map (kept_with s.room b) s.kept }

-- a page on which the bytes of a text are put, one after another
abbrev pub puts : Shown → List ℕ → Shown
puts s [] = s
puts s (b ∷ bs) = puts (with_byte s b) bs
