use Rattle.std.proofs.Common.{◌≡◌, subst, sym}
use Rattle.regions.specs.Plain.{plain_tree}
use Rattle.regions.specs.Laws.{IsPlainOf}
use Rattle.regions.proofs.Whole.{is_plain_of}
use Rattle.regions.proofs.trees.plain.Goals as goal

pub returns : goal.returns
returns c =
    let exact : c.in_ok-t.t ≡ plain_tree c.args.f.now = c.in_ok-t.ensures {u = tt} in
    record { exact = exact; holds = subst (IsPlainOf c.args.f.now) (sym exact) (is_plain_of c.args.f.now c.requires) }
