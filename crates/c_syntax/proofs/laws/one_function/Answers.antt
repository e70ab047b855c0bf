use Rattle.c_syntax.proofs.ReadFunctions.{one_function}
use Rattle.c_syntax.proofs.laws.one_function.Goals as goal

pub returns : goal.returns
returns c = one_function
