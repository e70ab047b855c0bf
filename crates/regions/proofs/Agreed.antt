-- What a flow agrees with, a tree that follows it agrees with.
use Rattle.micro_ir.specs.Run.{flow_run}
use Rattle.guarded.specs.Run.{tree_run}
use Rattle.flow_passes.proofs.Agreed.{agreed}
use Rattle.regions.specs.Follows.{FollowingAgrees}

pub following : FollowingAgrees
following machine f t start answers a h =
    agreed machine (flow_run f start answers) (tree_run t start answers) a (h.from start answers a.never_stuck)
