use Rattle.std.proofs.Common.{◌≡◌, ℕ, true, false, not, ◌||◌, ◌<◌, ◌≤◌, count_by, slice_index_or}
use Rattle.flag_liveness.proofs.row.add_all.Given as goal

abbrev pub invariant-loop-k : goal.invariant-loop-k
invariant-loop-k l = record {
  below : (j : ℕ) → j < l.k → slice_index_or l.all j true ≡ (slice_index_or l.initial.all j true || slice_index_or l.other j true);
  above : (j : ℕ) → l.k ≤ j → slice_index_or l.all j true ≡ slice_index_or l.initial.all j true;
  same : l.more ≡ false → l.all ≡ l.initial.all;
  fewer : l.more ≡ true → count_by not l.all < count_by not l.initial.all;
  less : count_by not l.all ≤ count_by not l.initial.all;
}
