-- The registers and flags of a row.
use Rattle.std.specs.Prelude.{◌≡◌, ◌+◌, ℕ, nat_lt, not, true, false, count_by, slice_index_or, IsTrue}
use Rattle.dream_words.specs.declared.machine.Name.{Name}
use Rattle.dream_words.specs.declared.machine.Name.TheVariants.{Reg, Flag}
use Rattle.flow_passes.specs.Uses.{NameSet}
use Rattle.flag_liveness.specs.declared.row.Row.{Row}

-- a register or a flag that exists
abbrev pub is_in_rows : NameSet
is_in_rows (Reg n) = nat_lt n 8
is_in_rows (Flag n) = nat_lt n 5
is_in_rows n = false

-- The registers and flags of a row. All other names count as live.
abbrev pub row_names : Row → NameSet
row_names r (Reg n) = slice_index_or r.regs n true
row_names r (Flag n) = slice_index_or r.flags n true
row_names r n = true

-- Two sets have the same registers and flags.
abbrev pub SameRow : NameSet → NameSet → Type 0
SameRow a b = (n : Name) → IsTrue (is_in_rows n) → a n ≡ b n

-- how many registers and flags aren't live
abbrev pub unset : Row → ℕ
unset r = count_by not r.regs + count_by not r.flags
