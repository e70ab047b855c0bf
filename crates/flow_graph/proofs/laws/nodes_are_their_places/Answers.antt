use Rattle.flow_graph.proofs.Nodes.{nodes_are}
use Rattle.flow_graph.proofs.laws.nodes_are_their_places.Goals as goal

pub returns : goal.returns
returns c = nodes_are
