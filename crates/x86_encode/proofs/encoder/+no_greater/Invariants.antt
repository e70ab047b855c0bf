use Rattle.std.proofs.Common.{length}
use Rattle.x86_encode.proofs.encoder.+no_greater.Given as goal

abbrev pub decreases-no_greater : goal.decreases-no_greater
decreases-no_greater l = length l.x.now
