-- What is live at the beginnings of blocks.
use Rattle.std.specs.Prelude.{ℕ, Bool, true, not, ◌||◌, Option, Some, None, slice_get}
use Rattle.std.specs.Ordering.{nat_cmp}
use Rattle.std.specs.BTreeSet as set
use Rattle.micro_ir.specs.Rule.{is_flow_target}
use Rattle.flow_passes.specs.Uses.{NameSet}
use Rattle.flag_liveness.specs.declared.row.Row.{Row}
use Rattle.flag_liveness.specs.declared.live.Live.{Live}
use Rattle.flag_liveness.specs.Rows.{row_names}
use Rattle.flag_liveness.specs.Within.{row_or_temps}

-- the registers and flags of a row; all, where there is no row
abbrev pub row_in : Option Row → NameSet
row_in (Some r) = row_names r
row_in None = λ n. true

-- the temporaries that live across blocks
abbrev pub across_of : Live → ℕ → Bool
across_of l = set.contains nat_cmp l.temps

-- the registers and flags of the row of a block, and the temporaries that live across blocks
abbrev pub held_in : Live → ℕ → NameSet
held_in l k = row_or_temps (row_in (slice_get l.rows.items k)) (across_of l)

-- What is live at the beginning of the block of a number. A name that no flow sets counts as live.
abbrev pub live_of : Live → ℕ → NameSet
live_of l k n = not (is_flow_target n) || held_in l k n
