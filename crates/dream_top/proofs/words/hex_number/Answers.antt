use Rattle.std.proofs.Common.{arith}
use Rattle.dream_top.proofs.Hex.{digit_fits}
use Rattle.dream_top.proofs.words.hex_number.Goals as goal

pub overflow_mul-value : goal.overflow_mul-value
overflow_mul-value c =
    omega (arith, digit_fits c.loop-byte.byte-index c.loop-byte.value 0 (omega arith) c.loop-byte.invariant.small (omega arith))

pub overflow_add-value : goal.overflow_add-value
overflow_add-value c =
    omega (arith, digit_fits c.loop-byte.byte-index c.loop-byte.value c.in_ok-hex_digit.field-0 (omega arith) c.loop-byte.invariant.small c.in_ok-hex_digit.ensures.small, c.from.ensures)
