use Rattle.flow_graph.proofs.OnePlaces.{one_place}
use Rattle.flow_graph.proofs.laws.one_place.Goals as goal

pub returns : goal.returns
returns c = one_place
