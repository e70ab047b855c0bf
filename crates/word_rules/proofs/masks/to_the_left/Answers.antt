use Rattle.c_syntax.specs.declared.syntax.CBin.TheVariants.{Shl}
use Rattle.word_rules.proofs.Covered.{all_cover_bin, left_covers}
use Rattle.word_rules.proofs.masks.to_the_left.Goals as goal

pub returns-in-Some : goal.returns-in-Some
returns-in-Some c = left_covers c.args.a c.args.b c.in-Some.k c.unwrap_or.result c.args.number c.apply.result c.in-Some.is c.apply.ensures c.unwrap_or.ensures

pub returns-in-None : goal.returns-in-None
returns-in-None c = all_cover_bin Shl c.args.a c.args.b c.args.number
