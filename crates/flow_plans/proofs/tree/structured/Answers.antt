use Rattle.std.proofs.Common.{◌≡◌, nat_le, true, false, ap, ◌∙◌, arith}
use Rattle.flow_plans.specs.Checked.{head_in}
use Rattle.flow_plans.specs.Emitted.{emitted}
use Rattle.flow_plans.specs.Fitting.{fits, nest}
use Rattle.flow_plans.specs.Laws.{passes}
use Rattle.flow_plans.proofs.Whole.{is_tree}
use Rattle.flow_plans.proofs.tree.structured.Goals as goal

pub returns : goal.returns
returns c =
    let f = c.args.f.now in
    let p = c.args.plan.now in
    let fit : fits p false ≡ true = grind (arith, c.fits.ensures, c.if-not-fits.false) in
    let nests : nat_le (nest p) 512 ≡ true = grind (arith, c.nests_within.ensures, c.if-not-nests_within.false) in
    let pass : passes f (head_in c.args.heads.now) c.args.unset.now p ≡ true = grind (arith, c.in_ok-passes.ensures {u = tt}, c.if-not-branch.false) in
    is_tree f (head_in c.args.heads.now) c.args.unset.now p c.in_ok-emitted.field-0 c.requires fit nests pass
    (c.in_ok-emitted.ensures {u = tt} ∙ ap (λ bs. emitted bs p) c.as_slice.ensures)
