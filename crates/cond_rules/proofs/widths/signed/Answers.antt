use Rattle.std.proofs.lemmas.Result.{IfOk-weaker}
use Rattle.cond_rules.proofs.Comparing.{signed_made, signed_plain}
use Rattle.cond_rules.proofs.widths.signed.Goals as goal

pub returns-in_default : goal.returns-in_default
returns-in_default c = IfOk-weaker c.extended.result _ _ (λ r m. signed_plain c.args.w c.args.e.now c.in_ok-e.e r c.in_ok-e.ensures m) c.extended.ensures

pub returns : goal.returns
returns c =
    IfOk-weaker c.extended-2.result _ _ (λ r m. signed_made c.args.w c.args.e.now c.in-Some.a.now c.in_ok-a.a r c.in-Some.ensures c.in_ok-a.ensures m) c.extended-2.ensures
