use Rattle.std.proofs.Common.{◌≡◌}
use Rattle.regions.specs.Straight.{straight_tree}
use Rattle.regions.proofs.Whole.{is_straight}
use Rattle.regions.proofs.trees.straight.Goals as goal

pub returns : goal.returns
returns c =
    let exact : c.in_ok-t.t ≡ straight_tree c.args.f.now = c.in_ok-t.ensures {u = tt} in
    record { exact = exact; holds = is_straight c.args.f.now c.requires c.in_ok-t.t exact }
