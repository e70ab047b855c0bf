use Rattle.word_rules.proofs.Covered.{all_cover_fn1, parity_covers}
use Rattle.word_rules.proofs.masks.of_fn1.Goals as goal

pub returns-in-Par : goal.returns-in-Par
returns-in-Par c = parity_covers c.args.f c.in-Par.is

pub returns-in-Sx1 : goal.returns-in-Sx1
returns-in-Sx1 c = all_cover_fn1 c.args.f
