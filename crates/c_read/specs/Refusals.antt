-- Where a text that stands for no function is refused. This shares nothing with the reading of a token.
use Rattle.std.specs.Prelude.{◌≡◌, ◌⊎◌, ℕ, ◌+◌, ◌<◌, ◌≤◌, List, ◌++◌, length, take}
use Rattle.c_syntax.specs.declared.syntax.CFun.{CFun}
use Rattle.c_syntax.specs.Lex.{tokens_in}
use Rattle.c_syntax.specs.Text.{include_line}
use Rattle.c_syntax.specs.Stands.{StandsFor}
use Rattle.c_lex.specs.Lexemes.{place_after}

-- some text of the profile has tokens after its include line that begin so
pub record BeginsSome (tokens : List (List ℕ)) : Type 0 where
  pub text : List ℕ
  pub f : CFun
  pub stands : StandsFor text f
  pub more : List (List ℕ)
  pub goes_on : tokens_in stands.rest ≡ tokens ++ more

-- After the include line, so many tokens begin some text of the profile, and one more doesn't. The place is that of the token
-- after them, or the text's end where no token comes after them.
pub record IsRefusedAfter (rest : List ℕ) (at : ℕ) : Type 0 where
  pub count : ℕ
  pub within : count ≤ length (tokens_in rest)
  pub longest : BeginsSome (take count (tokens_in rest))
  pub no_longer : count < length (tokens_in rest) → BeginsSome (take (count + 1) (tokens_in rest)) → ⊥
  pub place : at ≡ length include_line + place_after count rest

-- The text doesn't begin with the include line. Where it is a front of that line, it ends too early; else its beginning is
-- refused.
pub record IsRefusedBefore (text : List ℕ) (at : ℕ) : Type 0 where
  pub lacks : (rest : List ℕ) → text ≡ include_line ++ rest → ⊥
  pub front : (more : List ℕ) → include_line ≡ text ++ more → at ≡ length text
  pub other : ((more : List ℕ) → include_line ≡ text ++ more → ⊥) → at ≡ 0

-- the include line is counted as the first token
abbrev pub IsPlace : List ℕ → ℕ → Type 0
IsPlace text at = IsRefusedBefore text at ⊎ ((rest : List ℕ) × (text ≡ include_line ++ rest) × IsRefusedAfter rest at)

-- A text stands for no function, and is refused at this place.
pub record IsRefusedAt (text : List ℕ) (at : ℕ) : Type 0 where
  pub stands_for_none : (f : CFun) → StandsFor text f → ⊥
  pub place : IsPlace text at
