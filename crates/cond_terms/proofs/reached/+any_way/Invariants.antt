use Rattle.std.proofs.Common.{length}
use Rattle.cond_terms.proofs.reached.+any_way.Given as goal

abbrev pub decreases-any_way : goal.decreases-any_way
decreases-any_way l = length l.ways.now
