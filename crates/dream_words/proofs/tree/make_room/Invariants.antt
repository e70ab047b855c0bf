use Rattle.std.proofs.Common.{◌≡◌, ℕ, ◌+◌, ◌%◌, ◌^◌, ◌<◌}
use Rattle.std.specs.Ordering.{nat_cmp}
use Rattle.std.specs.BTreeMap.{ContainsKey}
use Rattle.dream_words.specs.Memory.{seen}
use Rattle.dream_words.proofs.tree.make_room.Given as goal

abbrev pub invariant-loop-k : goal.invariant-loop-k
invariant-loop-k l = record {
  at : l.at ≡ (l.a + l._k) % 2 ^ 32;
  same : seen l.tree.entries ≡ seen l.initial.tree.entries;
  room : (k : ℕ) → k < l._k → ContainsKey nat_cmp l.tree ((l.a + k) % 2 ^ 32);
}
