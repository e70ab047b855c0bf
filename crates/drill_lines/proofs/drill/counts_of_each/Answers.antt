use Rattle.drill_lines.specs.Counts.{HasCountsIn}
use Rattle.drill_lines.proofs.Zipped.{zip_more}
use Rattle.drill_lines.proofs.drill.counts_of_each.Goals as goal

pub loop-r-preserved : goal.loop-r-preserved
loop-r-preserved c =
    zip_more (HasCountsIn c.args.m.now) c.args.ranges.now c.loop-r.all.items c.push.new.self.items c.loop-r.r-index _ c.in_ok-counts_of.field-0 c.loop-r-test.true c.in_ok-push.ensures.items c.loop-r.invariant c.in_ok-counts_of.ensures
