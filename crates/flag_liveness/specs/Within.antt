-- What is live at a place within a block.
use Rattle.std.specs.Prelude.{◌≡◌, ℕ, Bool, not, ◌&&◌, ◌||◌, IsTrue}
use Rattle.std.specs.Ordering.{nat_cmp}
use Rattle.std.specs.BTreeSet as set
use Rattle.dream_words.specs.declared.machine.Name.{Name}
use Rattle.dream_words.specs.declared.machine.Name.TheVariants.{T}
use Rattle.micro_ir.specs.Rule.{is_flow_target}
use Rattle.micro_ir.specs.declared.flow.Stmt.{Stmt}
use Rattle.flow_passes.specs.Uses.{NameSet, stmt_reads, stmt_sets}
use Rattle.flag_liveness.specs.declared.seen.Seen.{Seen}
use Rattle.flag_liveness.specs.Rows.{row_names}

-- Two sets have the same of the names that a flow may set.
abbrev pub Agree : NameSet → NameSet → Type 0
Agree a b = (n : Name) → IsTrue (is_flow_target n) → a n ≡ b n

-- a set of names, but for temporaries, which are given
abbrev pub row_or_temps : NameSet → (ℕ → Bool) → NameSet
row_or_temps row temps (T n) = temps n
row_or_temps row temps n = row n

-- The temporaries that are live at a place: those that are read before they are set, and of those that aren't set, where
-- the block goes on, those that live across blocks.
abbrev pub temps_within : (ℕ → Bool) → Seen → ℕ → Bool
temps_within across s n = set.contains nat_cmp s.live n || (s.goes_on && (across n && not (set.contains nat_cmp s.dead n)))

-- what is live at a place
abbrev pub names_within : (ℕ → Bool) → Seen → NameSet
names_within across s = row_or_temps (row_names s.row) (temps_within across s)

-- some names are made live
pub record Adds (reads : NameSet) (old new : Seen) : Type 0 where
  pub names : (across : ℕ → Bool) → Agree (names_within across new) (λ n. reads n || names_within across old n)

-- a statement that somebody sees is gone back over
pub record GoesBack (s : Stmt) (old new : Seen) : Type 0 where
  pub names : (across : ℕ → Bool) → Agree (names_within across new) (λ n. stmt_reads s n || (names_within across old n && not (stmt_sets s n)))
