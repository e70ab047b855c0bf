use Rattle.std.proofs.Common.{◌∙◌, arith}
use Rattle.c_lex.proofs.Found.{short_candidate}
use Rattle.c_lex.proofs.token.candidate.Goals as goal

pub returns-then-bytes-lt2 : goal.returns-then-bytes-lt2
returns-then-bytes-lt2 c = c.find.ensures ∙ short_candidate c.args.bytes.now (omega arith)
