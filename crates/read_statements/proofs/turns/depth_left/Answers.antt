use Rattle.std.proofs.Common.{◌∙◌}
use Rattle.read_statements.proofs.Reversed.{depth_reversed}
use Rattle.read_statements.proofs.turns.depth_left.Goals as goal

pub returns : goal.returns
returns c = c.saturating_sub.ensures ∙ depth_reversed c.args.around.now
