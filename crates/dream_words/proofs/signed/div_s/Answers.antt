use Rattle.std.proofs.Common.{rules, ◌∙◌, ap, sym}
use Rattle.dream_words.specs.Words.{sign_bit}
use Rattle.dream_words.specs.Signed.{signed_by}
use Rattle.dream_words.proofs.Quotients.{quotient_by_distance}
use Rattle.dream_words.proofs.signed.div_s.Goals as goal

pub returns : goal.returns
returns g c =
    quotient_by_distance g.row.BITS c.args.hi c.args.lo c.args.d c.word-quotient.result c.word-remainder.result c.wide_magnitude-n.result c.from-divisor.result (sign_bit g.row.BITS c.args.hi) (sign_bit g.row.BITS c.args.d)
    c.wide_magnitude-n.ensures.value
    (c.magnitude.ensures.value ∙ ap (signed_by (sign_bit g.row.BITS c.args.d)) (sym c.from-divisor.ensures))
    (search rules) (search rules) (search rules) (search rules) (search rules)
