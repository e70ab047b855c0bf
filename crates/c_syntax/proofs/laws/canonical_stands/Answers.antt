use Rattle.c_syntax.proofs.LexStmts.{canonical_stands}
use Rattle.c_syntax.proofs.laws.canonical_stands.Goals as goal

pub returns : goal.returns
returns c = canonical_stands
