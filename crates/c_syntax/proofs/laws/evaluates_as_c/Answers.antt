use Rattle.c_syntax.proofs.AsC.{evaluates_as_c}
use Rattle.c_syntax.proofs.laws.evaluates_as_c.Goals as goal

pub returns : goal.returns
returns c = evaluates_as_c
