use Rattle.std.proofs.Common.{refl, sym, ◌∙◌}
use Rattle.std.proofs.lemmas.Bool.{false≢true}
use Rattle.cond_terms.proofs.Factoring.{parted_shared, parted_own}
use Rattle.cond_terms.proofs.factored.part_one.Goals as goal

pub returns-then-has_conjunct : goal.returns-then-has_conjunct
returns-then-has_conjunct c = parted_shared c.args.t c.args.other.now _ _ refl refl (c.has_conjunct.ensures.0 c.if-has_conjunct.true)

pub returns-else-has_conjunct : goal.returns-else-has_conjunct
returns-else-has_conjunct c =
    parted_own c.args.t c.args.other.now _ _ c.requires refl refl (λ w. false≢true (sym c.if-has_conjunct.false ∙ c.has_conjunct.ensures.1 w))
