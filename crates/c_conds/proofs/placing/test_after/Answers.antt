use Rattle.std.proofs.Common.{sym, subst, [], ◌∷◌}
use Rattle.std.specs.Prelude.{IfSome}
use Rattle.c_conds.specs.Placed.{HoldsAfter}
use Rattle.c_conds.proofs.Tests.{after_last}
use Rattle.c_conds.proofs.placing.test_after.Goals as goal

pub returns-in-Some-2 : goal.returns-in-Some-2
returns-in-Some-2 c = after_last c.args.before.now c.in-Some.last.now c.args.t.now c.in-Some-2.u (sym c.in-Some.ensures.value)
    (subst (λ o. IfSome o (λ u. HoldsAfter (c.in-Some.last.now ∷ []) c.args.t.now u)) c.in-Some-2.is c.in_ok-after-in-Some.ensures)
