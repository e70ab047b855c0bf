use Rattle.c_syntax.proofs.AsC.{runs_as_c}
use Rattle.c_syntax.proofs.laws.runs_as_c.Goals as goal

pub returns : goal.returns
returns c = runs_as_c
