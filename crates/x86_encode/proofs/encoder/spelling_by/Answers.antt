use Rattle.std.proofs.Common.{◌≡◌, ℕ, List, sym, ap, subst, ◌∙◌, true}
use Rattle.x86_inst.specs.Rows.{Fields}
use Rattle.x86_inst.specs.Spelling.{Spells}
use Rattle.x86_encode.specs.Parts.{fields_from}
use Rattle.x86_encode.specs.Bytes.{spelling_of}
use Rattle.x86_encode.proofs.encoder.spelling_by.Goals as goal

pub returns-then-spells-clause-complete : goal.returns-then-spells-clause-complete
returns-then-spells-clause-complete c =
    λ h s.
    let e = c.shown.ensures ∙ ap (fields_from c.args.row.now.form) c.of.ensures in
    c.in_ok-code.ensures.value ∙ ap (λ (g : Fields). spelling_of c.args.row.now g) e

pub returns-else-spells-clause-complete : goal.returns-else-spells-clause-complete
returns-else-spells-clause-complete c =
    λ h s.
    let e = c.shown.ensures ∙ ap (fields_from c.args.row.now.form) c.of.ensures in
    let v = c.in_ok-code.ensures.value ∙ ap (λ (g : Fields). spelling_of c.args.row.now g) e in
    let t : c.spells.result ≡ true = c.spells.ensures.spelling.1 (subst (λ (l : List ℕ). Spells l c.args.i.now) (sym v) s) in
    let f = c.if-spells.false in
    absurd cc
