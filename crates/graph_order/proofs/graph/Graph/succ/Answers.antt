use Rattle.std.proofs.Common.{arith}
use Rattle.std.proofs.lemmas.Grind.{common_steps}
use Rattle.graph_order.proofs.Names.{successors_inside}
use Rattle.graph_order.proofs.graph.Graph.succ.Goals as goal

pub returns-clause-inside : goal.returns-clause-inside
returns-clause-inside c = successors_inside _ c.args.self.now c.self.view_is c.self.invariant c.args.n c.deref.result.now (grind (arith, common_steps))
