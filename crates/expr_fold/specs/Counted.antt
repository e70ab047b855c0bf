-- What is noted of how often names are read.
use Rattle.std.specs.Prelude.{◌≡◌, ℕ, ◌+◌, Bool, false, not, nat_le}
use Rattle.std.specs.Ordering.{nat_cmp}
use Rattle.std.specs.BTreeSet as set
use Rattle.dream_words.specs.declared.machine.Name.{Name}
use Rattle.dream_words.specs.declared.machine.Name.TheVariants as name
use Rattle.flow_passes.specs.Uses.{NameSet}
use Rattle.expr_fold.specs.declared.counts.Reads.{Reads}
use Rattle.expr_fold.specs.Counts.{Counts}

-- Which temporaries are read, and which more than once.
pub record Counted (r : Reads) (c : Counts) : Type 0 where
  pub some : (t : ℕ) → set.contains nat_cmp r.some t ≡ nat_le 1 (c (name.T t))
  pub more : (t : ℕ) → set.contains nat_cmp r.more t ≡ nat_le 2 (c (name.T t))

-- More reads are noted.
pub record Notes (c : Counts) (old new : Reads) : Type 0 where
  pub of : (b : Counts) → Counted old b → Counted new (λ n. b n + c n)

-- the temporaries that are read at most once
abbrev pub once_of : Reads → NameSet
once_of r (name.T t) = not (set.contains nat_cmp r.more t)
once_of r n = false
