use Rattle.flow_stretches.specs.Known.{name_by}
use Rattle.flow_stretches.proofs.Each.{join_by}
use Rattle.flow_stretches.proofs.joining.join.Goals as goal

pub returns-clause-block : goal.returns-clause-block
returns-clause-block c = join_by c.args.blocks.now (name_by c.args.names.now) c.args.nodes.now c.in_ok-joined.joined c.straight.result c.in_ok-end.end c.in_ok-joined.ensures.block c.straight.ensures (c.in_ok-end.ensures {u = tt})
