-- Each size is one of three calls.
use Rattle.std.proofs.Common.{ap, sym, ◌∙◌}
use Rattle.dream_words.specs.Words.{signed_quotient_of}
use Rattle.x86_model.specs.Operands.{bits_of}
use Rattle.x86_model.proofs.products.signed_quotient.Goals as goal

pub returns-in-B : goal.returns-in-B
returns-in-B c = c.div_s.ensures ∙ ap (λ s. signed_quotient_of (bits_of s) c.args.hi c.args.lo c.args.d) (sym c.in-B.is)

pub returns-in-H : goal.returns-in-H
returns-in-H c = c.div_s-in-H.ensures ∙ ap (λ s. signed_quotient_of (bits_of s) c.args.hi c.args.lo c.args.d) (sym c.in-H.is)

pub returns-in-W : goal.returns-in-W
returns-in-W c = c.div_s-in-W.ensures ∙ ap (λ s. signed_quotient_of (bits_of s) c.args.hi c.args.lo c.args.d) (sym c.in-W.is)
