use Rattle.cond_rules.proofs.Joining.{form_of_signed, form_of_zero}
use Rattle.cond_rules.proofs.joined.is_signed_form.Goals as goal

pub returns-then-is_number-2 : goal.returns-then-is_number-2
returns-then-is_number-2 c =
    λ t. form_of_zero c.args.w c.args.e.now c.args.m.now (c.is_number.ensures c.if-is_number.true) (c.is_number-then-is_number.ensures c.if-is_number-2.true) (c.is_within.ensures c.if-not-is_within.false)

pub returns : goal.returns
returns c =
    λ t. form_of_signed c.args.w c.args.e.now c.in_ok-s.s c.args.m.now c.in_ok-s.ensures (c.same_word-same.ensures.0 t) (c.is_within.ensures c.if-not-is_within.false)
