use Rattle.regions.proofs.Ending.{exact}
use Rattle.regions.proofs.laws.straight_is_exact.Goals as goal

pub returns : goal.returns
returns c = exact
