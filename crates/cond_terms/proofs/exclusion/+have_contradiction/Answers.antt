use Rattle.cond_terms.specs.Exclusion.{IsContradicted}
use Rattle.cond_terms.proofs.Conjuncts.{tells_by_first, tells_by_second, tells_itself}
use Rattle.cond_terms.proofs.exclusion.+have_contradiction.Goals as goal

pub returns-then-have_contradiction : goal.returns-then-have_contradiction
returns-then-have_contradiction t c = tells_by_first (λ x. IsContradicted x c.args.t.now) _ c.in-And.a c.in-And.b c.args.s.now c.get.result.now c.in-And.is c.get.ensures c.have_contradiction.ensures c.if-have_contradiction.true

pub returns-else-have_contradiction : goal.returns-else-have_contradiction
returns-else-have_contradiction t c =
    tells_by_second (λ x. IsContradicted x c.args.t.now) _ _ c.in-And.a c.in-And.b c.args.s.now c.get.result.now c.get-else-have_contradiction.result.now c.in-And.is c.get.ensures c.have_contradiction.ensures c.if-have_contradiction.false
    c.get-else-have_contradiction.ensures c.have_contradiction-else-have_contradiction.ensures

pub returns-in_default : goal.returns-in_default
returns-in_default t c = tells_itself (λ x. IsContradicted x c.args.t.now) _ c.args.s.now c.in_default.not-And c.is_contradicted.ensures
