use Rattle.c_lex.proofs.Found.{one_token}
use Rattle.c_lex.proofs.laws.one_spelling.Goals as goal

pub returns : goal.returns
returns c = one_token
