use Rattle.std.proofs.Common.{◌≡◌, ◌<◌, ◌^◌, drop}
use Rattle.dream_top.specs.CommandLine.{hex_after}
use Rattle.dream_top.proofs.words.hex_number.Given as goal

-- the value of the digits so far
abbrev pub invariant-loop-byte : goal.invariant-loop-byte
invariant-loop-byte l = record {
  value : hex_after l.value (drop l.byte-index l.byte-items) ≡ hex_after 0 l.byte-items;
  small : l.value < 16 ^ l.byte-index;
}
