use Rattle.std.proofs.Common.{◌≡◌, ◌+◌, ◌%◌, ◌^◌, take}
use Rattle.std.specs.BTreeMap.{keys}
use Rattle.dream_words.specs.Memory.{seen, place}
use Rattle.dream_words.proofs.tree.overwrite.Given as goal

abbrev pub invariant-loop-byte : goal.invariant-loop-byte
invariant-loop-byte l = record {
  at : l.at ≡ (l.a + l.byte-index) % 2 ^ 32;
  placed : seen l.tree.entries ≡ place (seen l.initial.tree.entries) l.a (take l.byte-index l.bytes);
  keys : keys l.tree ≡ keys l.initial.tree;
}
