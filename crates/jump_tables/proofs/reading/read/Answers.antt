use Rattle.std.proofs.Common.{◌<◌, length, ◌∙◌, sym, arith, length-set}
use Rattle.jump_tables.proofs.Fronts.{front_is, front_ends, front_all, front_more}
use Rattle.jump_tables.proofs.reading.read.Goals as goal

pub returns-in-None-clause-read : goal.returns-in-None-clause-read
returns-in-None-clause-read c =
    front_ends c.args.m.now c.args.at c.loop-k.k c.room-k-end.result c.loop-k.bytes (sym (c.in-None.ensures {u = tt})) c.loop-k.invariant.so_far
    ∙ front_is c.args.m.now c.args.r.now c.args.at c.room-k-end.result c.room-k-end.ensures

pub loop-k-preserved : goal.loop-k-preserved
loop-k-preserved c =
    let long : c.loop-k.k < length c.loop-k.bytes = omega (arith, c.room-k-end.ensures, c.loop-k.invariant.long, c.loop-k-test.true) in
    record {
      long = length-set c.loop-k.bytes c.loop-k.k c.in-Some.byte ∙ c.loop-k.invariant.long;
      so_far = front_more c.args.m.now c.args.at c.loop-k.k c.room-k-end.result c.in-Some.byte c.loop-k.bytes (sym (c.in-Some.ensures {u = tt})) c.loop-k-test.true long c.loop-k.invariant.so_far;
    }

pub returns-clause-read : goal.returns-clause-read
returns-clause-read c =
    front_all c.args.m.now c.args.at c.loop-k.k c.room-k-end.result c.room.result c.loop-k.bytes (omega arith) (omega (arith, c.room.ensures, c.room-k-end.ensures)) c.loop-k.invariant.so_far
    ∙ front_is c.args.m.now c.args.r.now c.args.at c.room-k-end.result c.room-k-end.ensures
