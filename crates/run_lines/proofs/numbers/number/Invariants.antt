use Rattle.std.proofs.Common.{◌≡◌, ◌^◌, ◌<◌, drop}
use Rattle.run_lines.specs.Numbers.{digits_after}
use Rattle.run_lines.proofs.numbers.number.Given as goal

-- the value of the digits so far
abbrev pub invariant-loop-byte : goal.invariant-loop-byte
invariant-loop-byte l = record {
  value : digits_after l.base l.value (drop l.byte-index l.byte-items) ≡ digits_after l.base 0 l.byte-items;
  small : l.value < 16 ^ l.byte-index;
}
