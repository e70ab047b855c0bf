use Rattle.cond_rules.proofs.Joining.{less_or_equal, equal_or_less}
use Rattle.cond_rules.proofs.made.ruled_or.Goals as goal

pub union-requires : goal.union-requires
union-requires c = less_or_equal

pub union-requires-2 : goal.union-requires-2
union-requires-2 c = equal_or_less
