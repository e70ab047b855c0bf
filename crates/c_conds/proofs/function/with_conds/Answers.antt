use Rattle.std.proofs.Common.{refl, subst}
use Rattle.c_conds.specs.Placed.{AreLike}
use Rattle.c_conds.proofs.Whole.{promised}
use Rattle.c_conds.proofs.function.with_conds.Goals as goal

pub returns : goal.returns
returns c =
    let p = promised c.args.f c.in_ok-body.body c.requires.formed (subst (λ ss. AreLike ss c.in_ok-body.body) c.as_slice.ensures c.in_ok-body.ensures) in
    record { formed = p.formed; runs = p.runs; counts = p.counts; address = refl }
