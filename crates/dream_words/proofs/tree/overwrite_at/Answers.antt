use Rattle.dream_words.proofs.Seen.{seen_set}
use Rattle.dream_words.proofs.tree.overwrite_at.Goals as goal

pub returns-in-Some-clause-set : goal.returns-in-Some-clause-set
returns-in-Some-clause-set c =
    seen_set c.args.tree.now.entries (c.get_mut.follows.lender c.args.v).entries c.args.a c.args.v
    ((c.get_mut.follows.holds c.args.v).3 c.requires).0
