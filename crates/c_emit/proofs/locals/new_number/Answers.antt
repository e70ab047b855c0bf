use Rattle.std.proofs.Common.{arith, sym}
use Rattle.c_emit.proofs.Placing.{place_below, below_is}
use Rattle.c_emit.proofs.locals.new_number.Goals as goal

pub overflow_cast-result : goal.overflow_cast-result
overflow_cast-result c =
    let l = place_below c.args.numbers.now c.args.n c.place.result c.requires c.place.ensures in
    omega arith

pub returns : goal.returns
returns c = sym (below_is c.args.numbers.now c.args.n c.place.result c.place.ensures)
