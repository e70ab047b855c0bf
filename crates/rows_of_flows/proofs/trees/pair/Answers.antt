use Rattle.std.proofs.Common.{◌≡◌, subst, sym}
use Rattle.micro_ir.specs.Rule.{IsGiven}
use Rattle.rows_of_flows.proofs.Worked.{pair_flow, pair_given}
use Rattle.rows_of_flows.proofs.trees.pair.Goals as goal

pub returns : goal.returns
returns c =
    let made : c.in_ok-f.f ≡ pair_flow = c.in_ok-f.ensures {u = tt} in
    subst IsGiven (sym made) pair_given
