-- Where the tokens of a text stand, and which tokens of the profile they are.
use Rattle.std.specs.Prelude.{◌≡◌, ℕ, ◌+◌, ◌<◌, ◌≤◌, ◌^◌, List, [], ◌∷◌, ◌++◌, length, drop, slice_range, slice_index_or, Option, Some, None, if◌then◌else◌}
use Rattle.dream_words.specs.declared.machine.Name.TheVariants as name
use Rattle.c_syntax.specs.declared.token.Token.{Token}
use Rattle.c_syntax.specs.declared.token.Token.TheVariants as tok
use Rattle.c_syntax.specs.Lex.{extends, is_blank, tokens_in}
use Rattle.c_syntax.specs.Spelling.{spelling}
use Rattle.c_lex.specs.declared.scan.Lexeme.{Lexeme}

-- The places of the tokens of a text, after some bytes of the first one: where each one's first byte stands, if the text
-- stands at a place.
abbrev pub places : List ℕ → ℕ → List ℕ → List ℕ
places token at [] = []
places token at (b ∷ text) =
    if extends token b then places (token ++ b ∷ []) (at + 1) text else
    (if is_blank b then places [] (at + 1) text else at ∷ places (b ∷ []) (at + 1) text)

-- the place of the token after the first k of a text, or the text's length where no token comes after them
abbrev pub place_after : ℕ → List ℕ → ℕ
place_after k text = slice_index_or (places [] 0 text) k (length text)

-- A token that may stand in a text: its number is a word, its register one of eight, its flag one of five.
abbrev pub IsToken : Token → Type 0
IsToken (tok.Num n) = n < 2 ^ 32
IsToken (tok.Function n) = n < 2 ^ 32
IsToken (tok.Name (name.Reg n)) = n < 8
IsToken (tok.Name (name.Flag n)) = n < 5
IsToken (tok.Name (name.T n)) = n < 2 ^ 32
IsToken (tok.Name (name.B n)) = n < 2 ^ 32
IsToken (tok.Name (name.S n)) = n < 2 ^ 32
IsToken _ = Unit {0}

-- The token that some bytes spell; none exactly where no token is spelled so.
abbrev pub IsTokenOf : List ℕ → Option Token → Type 0
IsTokenOf bytes (Some x) = IsToken x × (spelling x ≡ bytes)
IsTokenOf bytes None = (x : Token) → IsToken x → spelling x ≡ bytes → ⊥

-- The first token from a place on: its bytes are those from where it begins to where it has ended, and the tokens after
-- it are those of the text from there on.
pub record IsLexeme (text : List ℕ) (from : ℕ) (l : Lexeme) : Type 0 where
  pub after : from ≤ l.at
  pub long : l.at < l.end
  pub inside : l.end ≤ length text
  pub tokens : tokens_in (drop from text) ≡ slice_range text l.at l.end ∷ tokens_in (drop l.end text)
  pub places : places [] from (drop from text) ≡ l.at ∷ places [] l.end (drop l.end text)
  pub token : IsTokenOf (slice_range text l.at l.end) l.token

-- No token comes after a place.
pub record IsLast (text : List ℕ) (from : ℕ) : Type 0 where
  pub tokens : tokens_in (drop from text) ≡ []
  pub places : places [] from (drop from text) ≡ []

-- the next token from a place on, if there is one
abbrev pub IsNext : List ℕ → ℕ → Option Lexeme → Type 0
IsNext text from (Some l) = IsLexeme text from l
IsNext text from None = IsLast text from
