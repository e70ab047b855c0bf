use Rattle.c_syntax.proofs.Prints.{prints_so}
use Rattle.c_syntax.proofs.laws.prints_so.Goals as goal

pub returns : goal.returns
returns c = prints_so
