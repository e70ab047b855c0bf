use Rattle.std.proofs.Common.{◌≡◌}
use Rattle.cond_terms.proofs.Conjuncts.{tells_by_first, tells_by_second, tells_itself, tells_conjunct, tells_some}
use Rattle.cond_terms.proofs.factored.+has_conjunct.Goals as goal

pub returns-then-has_conjunct : goal.returns-then-has_conjunct
returns-then-has_conjunct t c =
    let x = c.args.c.now in
    tells_conjunct x c.args.t.now _
    (tells_by_first (λ d. x ≡ d) _ c.in-And.a c.in-And.b c.args.t.now c.get.result.now c.in-And.is c.get.ensures
    (tells_some x c.get.result.now _ c.has_conjunct.ensures) c.if-has_conjunct.true)

pub returns-else-has_conjunct : goal.returns-else-has_conjunct
returns-else-has_conjunct t c =
    let x = c.args.c.now in
    tells_conjunct x c.args.t.now _
    (tells_by_second (λ d. x ≡ d) _ _ c.in-And.a c.in-And.b c.args.t.now c.get.result.now c.get-else-has_conjunct.result.now c.in-And.is c.get.ensures
    (tells_some x c.get.result.now _ c.has_conjunct.ensures) c.if-has_conjunct.false
    c.get-else-has_conjunct.ensures (tells_some x c.get-else-has_conjunct.result.now _ c.has_conjunct-else-has_conjunct.ensures))

pub returns-in_default : goal.returns-in_default
returns-in_default t c =
    let x = c.args.c.now in
    tells_conjunct x c.args.t.now _ (tells_itself (λ d. x ≡ d) _ c.args.t.now c.in_default.not-And c.same_term.ensures)
