use Rattle.std.proofs.Common.{subst}
use Rattle.cond_terms.specs.Factored.{IsParted}
use Rattle.cond_terms.proofs.Factoring.{parted_and}
use Rattle.cond_terms.proofs.factored.+part.Goals as goal

pub returns-in_ok-own-in-And : goal.returns-in_ok-own-in-And
returns-in_ok-own-in-And t c =
    let x = c.in_ok-x-in-And.field-0 in
    let y = c.in_ok-y-in-And.field-0 in
    let other = c.args.other.now in
    parted_and c.args.t c.in-And.a c.in-And.b other x.shared x.own y.shared y.own _ _ c.in-And.is
    (subst (λ z. IsParted z other x.shared x.own) c.into_inner.ensures c.in_ok-x-in-And.ensures)
    (subst (λ z. IsParted z other y.shared y.own) c.into_inner-in-And.ensures c.in_ok-y-in-And.ensures)
    c.in_ok-shared-in-And.ensures c.in_ok-own-in-And.ensures
