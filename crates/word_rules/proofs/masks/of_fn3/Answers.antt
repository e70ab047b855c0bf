use Rattle.word_rules.proofs.Covered.{all_cover_fn3, bad_covers, signed_bad_covers}
use Rattle.word_rules.proofs.masks.of_fn3.Goals as goal

pub returns-in-Divubad : goal.returns-in-Divubad
returns-in-Divubad c = bad_covers c.args.f c.in-Divubad.is

pub returns-in-Divsbad : goal.returns-in-Divsbad
returns-in-Divsbad c = signed_bad_covers c.args.f c.in-Divsbad.is

pub returns-in-Divuq : goal.returns-in-Divuq
returns-in-Divuq c = all_cover_fn3 c.args.f
