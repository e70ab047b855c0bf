use Rattle.c_lex.proofs.Tokens.{function_tokens}
use Rattle.c_lex.proofs.laws.function_tokens.Goals as goal

pub returns : goal.returns
returns c = function_tokens
