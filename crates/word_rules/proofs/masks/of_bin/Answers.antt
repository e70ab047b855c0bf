use Rattle.word_rules.proofs.Covered.{all_cover_bin, and_covers, or_covers, xor_covers}
use Rattle.word_rules.proofs.masks.of_bin.Goals as goal

pub returns-in-Add : goal.returns-in-Add
returns-in-Add c = all_cover_bin c.args.op c.args.a c.args.b c.args.number

pub returns-in-Sub : goal.returns-in-Sub
returns-in-Sub c = all_cover_bin c.args.op c.args.a c.args.b c.args.number

pub returns-in-Mul : goal.returns-in-Mul
returns-in-Mul c = all_cover_bin c.args.op c.args.a c.args.b c.args.number

pub returns-in-And : goal.returns-in-And
returns-in-And c = and_covers c.args.op c.args.a c.args.b c.args.number c.in-And.is

pub returns-in-Or : goal.returns-in-Or
returns-in-Or c = or_covers c.args.op c.args.a c.args.b c.args.number c.in-Or.is

pub returns-in-Xor : goal.returns-in-Xor
returns-in-Xor c = xor_covers c.args.op c.args.a c.args.b c.args.number c.in-Xor.is
