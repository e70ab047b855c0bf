-- What is found by reading from an address on, a step at a time: what the functions that look for a window answer.
use Rattle.std.specs.Prelude.{ℕ, zero, suc, ◌+◌, ◌-◌, ◌*◌, ◌%◌, ◌^◌, ◌&&◌, nat_lt, Bool, true, List, length, take, Option, Some, None, option_map, option_and_then, is_some, Ok, Err, if◌then◌else◌}
use Rattle.std.specs.List.{list_all}
use Rattle.elf_image.specs.declared.image.Segment.{Segment}
use Rattle.elf_image.specs.declared.range.Range.{Range}
use Rattle.elf_image.specs.Image.{frozen_byte}
use Rattle.elf_image.specs.Range.{bytes_to_end}
use Rattle.dream_words.specs.Words.{low_part}
use Rattle.x86_inst.specs.declared.AluOp.TheVariants.{Cmp}
use Rattle.x86_inst.specs.declared.Operand.{Operand}
use Rattle.x86_inst.specs.declared.Operand.TheVariants as o
use Rattle.x86_inst.specs.declared.Inst.{Inst}
use Rattle.x86_inst.specs.declared.Inst.TheVariants as i
use Rattle.x86_decode.specs.Reading.{Read, read_at}
use Rattle.x86_model.specs.Operands.{bits_of}
use Rattle.jump_tables.specs.Forms.{Index, Known, is_on_path, at_first, after, table_of}
use Rattle.jump_tables.specs.Window.{Split, next_of, split_of, is_place}
use Rattle.jump_tables.specs.declared.table.TableWindow.{TableWindow}
use Rattle.jump_tables.specs.declared.windows.Comparison.{Comparison}

-- ---- the instruction at an address

-- what reading gave, as an instruction with its length, if all that was read are bytes
abbrev pub as_found : List ℕ → Read Inst → Option (Inst × ℕ)
as_found x (Ok d) = if list_all (λ b. nat_lt b 256) (take (length x - length d.1) x) then Some (d.0, length x - length d.1) else None
as_found x (Err e) = None

-- the instruction that begins at an address, with its length
unfoldable pub found : List Segment → Range → ℕ → Option (Inst × ℕ)
found m r a = as_found (bytes_to_end m r a) (read_at (bytes_to_end m r a))

-- ---- the comparison and the branch

-- the index and the number that an instruction compares
abbrev pub comparison_of : Inst → Option (Index × ℕ)
comparison_of (i.Alu Cmp size x (o.Imm k)) = if is_place x then Some (record { size = size; operand = x }, k) else None
comparison_of _ = None

-- the condition and the distance of a branch
abbrev pub branch_of : Inst → Option (ℕ × ℕ)
branch_of (i.Jcc c distance) = Some (c.0, distance)
branch_of _ = None

-- the comparison that begins at an address
unfoldable pub comparison_at : List Segment → Range → ℕ → Option Comparison
comparison_at m r a =
    option_and_then (λ d. option_map (λ c. record { index = c.0; bound = c.1; next = next_of a d.1 }) (comparison_of d.0)) (found m r a)

-- where a branch with a condition and a distance leads after a comparison, with the address after the branch
abbrev pub split_by : Comparison → ℕ → ℕ × ℕ → Option Split
split_by c next b = split_of b.0 (low_part (bits_of c.index.size) c.bound) ((next + b.1) % 2 ^ 32) next

-- where the branch after a comparison leads
unfoldable pub split_at : List Segment → Range → Comparison → Option Split
split_at m r c = option_and_then (λ d. option_and_then (split_by c (next_of c.next d.1)) (branch_of d.0)) (found m r c.next)

-- ---- the path

-- where a jump by a word goes
abbrev pub goal_of : Inst → Option Operand
goal_of (i.JmpTo goal) = Some goal
goal_of _ = None

-- the table of a jump at an address, or else what comes later
abbrev pub unless_jump : Option Operand → Known → ℕ → Option (ℕ × ℕ) → Option (ℕ × ℕ)
unless_jump (Some goal) k a later = option_map (λ t. (a, t)) (table_of k.forms goal)
unless_jump None k a later = later

-- the address of the jump to which at most n instructions lead, with it, and its table
unfoldable pub jump_from : List Segment → Range → Index → ℕ → Known → ℕ → Option (ℕ × ℕ)
jump_from m r x zero k a = None
jump_from m r x (suc n) k a =
    option_and_then (λ d. unless_jump (goal_of d.0) k a (if is_on_path d.0 then jump_from m r x n (after x k d.0) (next_of a d.1) else None)) (found m r a)

-- ---- the table

-- each of n bytes from an address on is frozen
abbrev pub all_frozen : List Segment → ℕ → ℕ → Bool
all_frozen m t zero = true
all_frozen m t (suc n) = all_frozen m t n && is_some (frozen_byte m ((t + n) % 2 ^ 32))

-- the window of a branch that leads to a jump through a table, if the table is as it has to be
abbrev pub window_by : List Segment → Split → ℕ × ℕ → Option TableWindow
window_by m s j =
    if nat_lt 0 s.count && (nat_lt s.count 1025 && all_frozen m j.1 (4 * s.count))
    then Some (record { default = s.default; table = j.1; count = s.count; jump = j.0; path = s.path }) else None

-- the window of a comparison
unfoldable pub window_from : List Segment → Range → Comparison → Option TableWindow
window_from m r c =
    option_and_then (λ s. option_and_then (window_by m s) (jump_from m r c.index 5 (at_first c.index) s.path)) (split_at m r c)

-- the window at an address
unfoldable pub window_found : List Segment → Range → ℕ → Option TableWindow
window_found m r a = option_and_then (window_from m r) (comparison_at m r a)
