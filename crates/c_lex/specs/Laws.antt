-- What holds of all tokens that may stand in a text.
use Rattle.std.specs.Prelude.{◌≡◌, All}
use Rattle.c_syntax.specs.declared.syntax.CFun.{CFun}
use Rattle.c_syntax.specs.declared.token.Token.{Token}
use Rattle.c_syntax.specs.Spelling.{spelling}
use Rattle.c_syntax.specs.Tokens.{fun_tokens}
use Rattle.c_syntax.specs.Formed.{IsWellFormed}
use Rattle.c_lex.specs.Lexemes.{IsToken}

-- No two tokens are spelled alike.
abbrev pub OneSpelling : Type 0
OneSpelling = (x y : Token) → IsToken x → IsToken y → spelling x ≡ spelling y → x ≡ y

-- The tokens of a well-formed function may stand in a text.
abbrev pub FunctionTokens : Type 0
FunctionTokens = (f : CFun) → IsWellFormed f → All IsToken (fun_tokens f)
