use Rattle.std.proofs.Common.{sym, ◌∙◌}
use Rattle.std.proofs.lemmas.Bool.{false≢true}
use Rattle.cond_terms.proofs.Along.{short_guard}
use Rattle.cond_terms.proofs.reached.shortened.Goals as goal

pub returns-else-is_large : goal.returns-else-is_large
returns-else-is_large c =
    short_guard c.args.t c.in_ok-copy.field-0 c.in_ok-short.short c.in_ok-short-2.short c.args.name c.in_ok-copy.ensures c.in_ok-short.ensures.same_truth c.in_ok-short-2.ensures.same_truth
    c.in_ok-short-2.ensures.simple (λ h. false≢true (sym c.if-is_large.false ∙ c.is_large.ensures.1 h))
