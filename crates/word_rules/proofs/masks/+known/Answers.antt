use Rattle.word_rules.proofs.Covered.{bin_covered, fn1_covered, fn2_covered, fn3_covered, pick_covered}
use Rattle.word_rules.proofs.masks.+known.Goals as goal

pub returns-in-Bin : goal.returns-in-Bin
returns-in-Bin t c = bin_covered c.in-Bin.op c.in-Bin.a c.in-Bin.b _ _ _ c.args.e.now _ _ _ _ c.in-Bin.is c.get.ensures c.get-in-Bin.ensures c.get-in-Bin-2.ensures c.known-first.ensures c.known-second.ensures c.number.ensures c.of_bin.ensures

pub returns-in-Fn1 : goal.returns-in-Fn1
returns-in-Fn1 t c = fn1_covered _ _ _ _ c.in-Fn1.is c.of_fn1.ensures

pub returns-in-Fn2 : goal.returns-in-Fn2
returns-in-Fn2 t c = fn2_covered _ _ _ _ _ c.in-Fn2.is c.of_fn2.ensures

pub returns-in-Fn3 : goal.returns-in-Fn3
returns-in-Fn3 t c = fn3_covered _ _ _ _ _ _ c.in-Fn3.is c.of_fn3.ensures

pub returns-in-Pick : goal.returns-in-Pick
returns-in-Pick t c = pick_covered c.in-Pick.field-0 c.in-Pick.a c.in-Pick.b _ _ c.args.e.now _ _ c.in-Pick.is c.get-in-Pick.ensures c.get-in-Pick-2.ensures c.known-first-in-Pick.ensures c.known-second-in-Pick.ensures
