use Rattle.std.proofs.Common.{arith}
use Rattle.run_lines.proofs.Digits.{product_fits, digit_fits}
use Rattle.run_lines.proofs.numbers.number.Goals as goal

pub overflow_mul-value : goal.overflow_mul-value
overflow_mul-value c =
    omega (arith, product_fits c.from.result c.loop-byte.byte-index c.loop-byte.value (omega (arith, c.from.ensures, c.requires.base)) (omega arith) c.loop-byte.invariant.small)

pub overflow_add-value : goal.overflow_add-value
overflow_add-value c =
    omega (
      arith,
      digit_fits c.from.result c.loop-byte.byte-index c.loop-byte.value c.from-in-loop-byte.result (omega (arith, c.from.ensures, c.requires.base)) (omega arith) c.loop-byte.invariant.small
          (omega (arith, c.from.ensures, c.from-in-loop-byte.ensures, c.in_ok-digit.ensures.small)),
    )
