-- Which texts stand for a function, and the laws on them.
use Rattle.std.specs.Prelude.{◌≡◌, List, ◌++◌, ℕ, map}
use Rattle.c_syntax.specs.declared.syntax.CFun.{CFun}
use Rattle.c_syntax.specs.Lex.{tokens_in}
use Rattle.c_syntax.specs.Spelling.{spelling}
use Rattle.c_syntax.specs.Tokens.{fun_tokens}
use Rattle.c_syntax.specs.Text.{include_line, canonical_text}
use Rattle.c_syntax.specs.Formed.{IsWellFormed}

-- A text stands for a function: it begins with the include line, after which its tokens are those that the grammar gives
-- the function, and the function is well formed.
pub record StandsFor (text : List ℕ) (f : CFun) : Type 0 where
  pub rest : List ℕ
  pub begins : text ≡ include_line ++ rest
  pub tokens : tokens_in rest ≡ map spelling (fun_tokens f)
  pub well_formed : IsWellFormed f

-- The canonical text of a well-formed function stands for it.
abbrev pub CanonicalStands : Type 0
CanonicalStands = (f : CFun) → IsWellFormed f → StandsFor (canonical_text f) f

-- A text stands for at most one function.
abbrev pub OneFunction : Type 0
OneFunction = (text : List ℕ) (f g : CFun) → StandsFor text f → StandsFor text g → f ≡ g
