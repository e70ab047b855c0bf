use Rattle.std.proofs.Common.{◌≡◌, ◌+◌, ◌^◌, ◌<◌, ◌≤◌, length}
use Rattle.std.specs.Prelude.{◌==◌, ◌&&◌, not, is_some, All, count_by}
use Rattle.std.specs.Ordering.{nat_cmp}
use Rattle.std.specs.BTreeMap.{get}
use Rattle.dream_words.proofs.tree.added.Given as goal

abbrev pub invariant-loop-a : goal.invariant-loop-a
invariant-loop-a l = record {
  count : l.count + count_by (λ e. not (is_some (get nat_cmp l.tree e.0)) && not (e.1 == 0)) l.a-iterator ≡ count_by (λ e. not (is_some (get nat_cmp l.tree e.0)) && not (e.1 == 0)) l.other.entries;
  small : l.count + length l.a-iterator ≤ length l.other.entries;
  addresses : All (λ e. e.0 < 2 ^ 32) l.a-iterator → All (λ e. e.0 < 2 ^ 32) l.other.entries;
}
