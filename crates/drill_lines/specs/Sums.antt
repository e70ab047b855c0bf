-- Sums that have room for one summand more.
use Rattle.std.specs.Prelude.{ℕ, ◌+◌, ◌<◌}
use Rattle.drill_lines.specs.declared.range_counts.Counts.{Counts}
use Rattle.drill_lines.specs.declared.line.Totals.{Totals}

-- the sums with the counts of one range more
abbrev pub with_counts : Totals → Counts → Totals
with_counts t c = record {
  accepted = t.accepted + c.accepted;
  components = t.components + c.components;
  selectors = t.selectors + c.selectors;
  ext = t.ext + c.ext;
  stores = t.stores + c.stores;
}

-- each sum is below a bound
pub record AreBelow (k : ℕ) (t : Totals) : Type 0 where
  pub accepted : t.accepted < k
  pub components : t.components < k
  pub selectors : t.selectors < k
  pub ext : t.ext < k
  pub stores : t.stores < k
