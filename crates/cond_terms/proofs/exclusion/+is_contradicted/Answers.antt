use Rattle.cond_terms.specs.Exclusion.{Contradict}
use Rattle.cond_terms.proofs.Conjuncts.{tells_by_first, tells_by_second, tells_itself}
use Rattle.cond_terms.proofs.exclusion.+is_contradicted.Goals as goal

pub returns-then-is_contradicted : goal.returns-then-is_contradicted
returns-then-is_contradicted t c = tells_by_first (Contradict c.args.one.now) _ c.in-And.a c.in-And.b c.args.t.now c.get.result.now c.in-And.is c.get.ensures c.is_contradicted.ensures c.if-is_contradicted.true

pub returns-else-is_contradicted : goal.returns-else-is_contradicted
returns-else-is_contradicted t c =
    tells_by_second (Contradict c.args.one.now) _ _ c.in-And.a c.in-And.b c.args.t.now c.get.result.now c.get-else-is_contradicted.result.now c.in-And.is c.get.ensures c.is_contradicted.ensures c.if-is_contradicted.false
    c.get-else-is_contradicted.ensures c.is_contradicted-else-is_contradicted.ensures

pub returns-in_default : goal.returns-in_default
returns-in_default t c = tells_itself (Contradict c.args.one.now) _ c.args.t.now c.in_default.not-And c.contradict.ensures
