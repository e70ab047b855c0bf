use Rattle.std.proofs.Common.{not, subst}
use Rattle.std.proofs.lemmas.Result.{IfOk-weaker}
use Rattle.cond_terms.specs.Simple.{IsSimplified}
use Rattle.cond_terms.proofs.Simplest.{simple_literal, simple_not, simple_and, simple_or}
use Rattle.cond_terms.proofs.simple.+simplified.Goals as goal

pub returns-in-Lit : goal.returns-in-Lit
returns-in-Lit t c = IfOk-weaker c.literal.result _ _ (λ m e. simple_literal c.args.t.now c.in-Lit.l c.args.holds m c.in-Lit.is e) c.literal.ensures

pub returns-in-Not : goal.returns-in-Not
returns-in-Not t c =
    IfOk-weaker c.simplified.result _ _
    (λ m s. simple_not c.args.t.now c.in-Not.a c.args.holds m c.in-Not.is (subst (λ z. IsSimplified z (not c.args.holds) m) c.get.ensures s))
    c.simplified.ensures

pub returns-in_ok-b-in-And : goal.returns-in_ok-b-in-And
returns-in_ok-b-in-And t c =
    let h = c.args.holds in
    let x = c.in_ok-a-in-And.a in
    let y = c.in_ok-b-in-And.b in
    IfOk-weaker c.joined.result _ _
    (λ m j. simple_and c.args.t.now c.in-And.a c.in-And.b h x y m c.in-And.is
    (subst (λ z. IsSimplified z h x) c.get-in-And.ensures c.in_ok-a-in-And.ensures)
    (subst (λ z. IsSimplified z h y) c.get-in-And-2.ensures c.in_ok-b-in-And.ensures) j)
    c.joined.ensures

pub returns-in_ok-b-in-Or : goal.returns-in_ok-b-in-Or
returns-in_ok-b-in-Or t c =
    let h = c.args.holds in
    let x = c.in_ok-a-in-Or.a in
    let y = c.in_ok-b-in-Or.b in
    IfOk-weaker c.joined-in-Or.result _ _
    (λ m j. simple_or c.args.t.now c.in-Or.a c.in-Or.b h x y m c.in-Or.is
    (subst (λ z. IsSimplified z h x) c.get-in-Or.ensures c.in_ok-a-in-Or.ensures)
    (subst (λ z. IsSimplified z h y) c.get-in-Or-2.ensures c.in_ok-b-in-Or.ensures) j)
    c.joined-in-Or.ensures
