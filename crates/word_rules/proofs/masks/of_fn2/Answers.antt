use Rattle.word_rules.proofs.Covered.{all_cover_fn2, less_covers}
use Rattle.word_rules.proofs.masks.of_fn2.Goals as goal

pub returns-in-Lts : goal.returns-in-Lts
returns-in-Lts c = less_covers c.args.f c.in-Lts.is

pub returns-in-Sar : goal.returns-in-Sar
returns-in-Sar c = all_cover_fn2 c.args.f
