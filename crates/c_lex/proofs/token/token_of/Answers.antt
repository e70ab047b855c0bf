use Rattle.std.proofs.Common.{sym, ◌∙◌, subst}
use Rattle.c_lex.proofs.Found.{spelled_so, none_so, none_spelled}
use Rattle.c_lex.specs.Lexemes.{IsTokenOf}
use Rattle.c_lex.proofs.token.token_of.Goals as goal

pub returns-in_err-token : goal.returns-in_err-token
returns-in_err-token c = subst (IsTokenOf c.args.bytes.now) (sym c.from_residual.ensures) (none_so c.args.bytes.now (sym c.candidate.ensures ∙ c.in_err-token.was))

pub returns-then-is_spelled : goal.returns-then-is_spelled
returns-then-is_spelled c = spelled_so c.args.bytes.now c.in_ok-token.token (sym c.candidate.ensures ∙ c.in_ok-token.was) (sym c.is_spelled.ensures ∙ c.if-is_spelled.true)

pub returns-else-is_spelled : goal.returns-else-is_spelled
returns-else-is_spelled c = none_spelled c.args.bytes.now c.in_ok-token.token (sym c.candidate.ensures ∙ c.in_ok-token.was) (sym c.is_spelled.ensures ∙ c.if-is_spelled.false)
