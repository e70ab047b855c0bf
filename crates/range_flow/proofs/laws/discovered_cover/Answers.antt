use Rattle.range_flow.proofs.FoundPlaces.{discovered_cover}
use Rattle.range_flow.proofs.laws.discovered_cover.Goals as goal

pub returns : goal.returns
returns c = discovered_cover
