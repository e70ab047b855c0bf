use Rattle.std.proofs.Common.{◌≡◌, ◌+◌, ◌*◌, ◌^◌, subst, arith}
use Rattle.drill_lines.specs.Sums.{AreBelow}
use Rattle.drill_lines.proofs.Summed.{more_totals}
use Rattle.drill_lines.proofs.line.sums_of.Goals as goal

pub loop-counts-preserved : goal.loop-counts-preserved
loop-counts-preserved c =
    let i = c.loop-counts.counts-index in
    let next : i * 2 ^ 64 + 1 + 2 ^ 64 ≡ (i + 1) * 2 ^ 64 + 1 = omega arith in
    record {
      sums = more_totals c.args.all.now i _ c.loop-counts.sums c.plus-sums.result c.loop-counts-test.true c.plus-sums.ensures.sums c.loop-counts.invariant.sums;
      small = subst (λ k. AreBelow k c.plus-sums.result) next (c.plus-sums.ensures.small (i * 2 ^ 64 + 1) c.loop-counts.invariant.small);
    }
