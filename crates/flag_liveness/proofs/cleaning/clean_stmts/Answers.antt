use Rattle.std.specs.Ordering.{nat_cmp}
use Rattle.std.specs.BTreeSet as set
use Rattle.flag_liveness.proofs.Making.{cleans_more}
use Rattle.flag_liveness.proofs.cleaning.clean_stmts.Goals as goal

pub loop-s-preserved : goal.loop-s-preserved
loop-s-preserved c =
    cleans_more (set.contains nat_cmp c.args.across.now) c.args.stmts c.loop-s.rest c.pop.new.self c.loop-s.kept.items c.keep_seen.new.kept.items c.args.seen c.loop-s.seen c.keep_seen.new.seen c.in-Some.s c.requires c.loop-s.invariant
    c.in-Some.ensures c.in_ok-keep_seen.ensures.kept c.in_ok-keep_seen.ensures.names
