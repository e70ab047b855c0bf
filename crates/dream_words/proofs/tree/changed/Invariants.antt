use Rattle.std.proofs.Common.{◌≡◌, ◌+◌, ◌^◌, ◌<◌, ◌≤◌, length}
use Rattle.std.specs.Prelude.{◌==◌, not, All, count_by}
use Rattle.dream_words.specs.Memory.{byte_at, seen}
use Rattle.dream_words.proofs.tree.changed.Given as goal

abbrev pub invariant-loop-a : goal.invariant-loop-a
invariant-loop-a l = record {
  count : l.count + count_by (λ e. not (e.1 == byte_at (seen l.other.entries) e.0)) l.a-iterator ≡ count_by (λ e. not (e.1 == byte_at (seen l.other.entries) e.0)) l.tree.entries;
  small : l.count + length l.a-iterator ≤ length l.tree.entries;
  addresses : All (λ e. e.0 < 2 ^ 32) l.a-iterator → All (λ e. e.0 < 2 ^ 32) l.tree.entries;
}
