use Rattle.std.proofs.Common.{◌∙◌, ap, refl}
use Rattle.c_locals.specs.Settled.{settled_all}
use Rattle.c_locals.proofs.Whole.{few_temps, few_bools, settled_by, promised}
use Rattle.c_locals.proofs.function.without_unread.Goals as goal

pub new-requires-clause-temps : goal.new-requires-clause-temps
new-requires-clause-temps c = few_temps c.args.f _ c.in_ok-marks.ensures c.requires.temps

pub new-requires-clause-bools : goal.new-requires-clause-bools
new-requires-clause-bools c = few_bools c.args.f _ c.in_ok-marks.ensures c.requires.bools

pub temps-requires : goal.temps-requires
temps-requires c = few_temps c.args.f _ (c.in_ok-locals.ensures ∙ c.in_ok-marks.ensures) c.requires.temps

pub bools-requires : goal.bools-requires
bools-requires c = few_bools c.args.f _ (c.in_ok-locals.ensures ∙ c.in_ok-marks.ensures) c.requires.bools

pub returns : goal.returns
returns c =
    let e = settled_by c.args.f _ c.temps.result c.bools.result c.in_ok-body.body (c.in_ok-locals.ensures ∙ c.in_ok-marks.ensures) c.temps.ensures c.bools.ensures (c.in_ok-body.ensures ∙ ap (settled_all c.in_ok-locals.locals) c.as_slice.ensures) in
    let p = promised c.args.f _ c.requires e in
    record { exact = e; formed = p.formed; runs = p.runs; counts = p.counts; address = refl }
