use Rattle.cond_rules.proofs.Joining.{at_most_not_equal}
use Rattle.cond_rules.proofs.made.ruled_and.Goals as goal

pub common-requires : goal.common-requires
common-requires c = at_most_not_equal
