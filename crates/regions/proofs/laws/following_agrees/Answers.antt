use Rattle.regions.proofs.Agreed.{following}
use Rattle.regions.proofs.laws.following_agrees.Goals as goal

pub returns : goal.returns
returns c = following
