use Rattle.flow_graph.proofs.OneDiscoveries.{one_discovery}
use Rattle.flow_graph.proofs.laws.one_discovery.Goals as goal

pub returns : goal.returns
returns c = one_discovery
