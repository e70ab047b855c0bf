use Rattle.std.proofs.Common.{arith}
use Rattle.read_words.proofs.Depths.{depth_is}
use Rattle.read_words.proofs.part.depth_left.Goals as goal

pub returns : goal.returns
returns c = omega (arith, depth_is c.args.around.now)
