use Rattle.std.proofs.Common.{◌∙◌}
use Rattle.cond_terms.proofs.Along.{of_three, way_made}
use Rattle.cond_terms.proofs.reached.way.Goals as goal

pub returns : goal.returns
returns c =
    of_three c.simplify.result _ _ _ _
    (λ made truth no_larger simple. way_made c.args.source.now c.args.edge.now.term _ _ made (c.in_ok-source.ensures ∙ c.in_ok-read.ensures) (c.in_ok-term.ensures ∙ c.in_ok-copy.ensures) truth no_larger simple)
    c.simplify.ensures.same_truth c.simplify.ensures.no_larger c.simplify.ensures.simple
