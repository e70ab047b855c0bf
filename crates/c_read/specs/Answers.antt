-- What an answer says of a text, and what follows from it.
use Rattle.std.specs.Prelude.{◌≡◌, ◌⊎◌, ℕ, List, ◌++◌, length, nat_eq, Result, Ok, Err, if◌then◌else◌}
use Rattle.std.specs.List.{starts_with}
use Rattle.c_syntax.specs.declared.syntax.CFun.{CFun}
use Rattle.c_syntax.specs.Text.{include_line, canonical_text}
use Rattle.c_syntax.specs.Formed.{IsWellFormed}
use Rattle.c_syntax.specs.Stands.{StandsFor}
use Rattle.c_read.specs.declared.text.TextFault.{TextFault}
use Rattle.c_read.specs.declared.text.TextFault.TheVariants.{At, Memory}
use Rattle.c_read.specs.Refusals.{IsRefusedAt}

-- The function is the one for which the text stands. Or the text stands for none, and is refused at the place. Want of memory
-- says nothing of it.
abbrev pub IsAnswer : List ℕ → Result CFun TextFault → Type 0
IsAnswer text (Ok f) = StandsFor text f
IsAnswer text (Err (At n)) = IsRefusedAt text n
IsAnswer text (Err Memory) = Unit {0}

-- what an answer to what comes after the include line says of the whole text
abbrev pub IsRestAnswer : List ℕ → Result CFun TextFault → Type 0
IsRestAnswer rest = IsAnswer (include_line ++ rest)

-- where a text without the include line is refused
abbrev pub missing_at : List ℕ → ℕ
missing_at text = if starts_with nat_eq include_line text then length text else 0

-- A text is refused at one place.
abbrev pub OnePlace : Type 0
OnePlace = (text : List ℕ) (m n : ℕ) → IsRefusedAt text m → IsRefusedAt text n → m ≡ n

-- A text that stands for a function is read as that function, unless memory runs out.
abbrev pub ReadsExactly : Type 0
ReadsExactly = (text : List ℕ) (f : CFun) (r : Result CFun TextFault) → StandsFor text f → IsAnswer text r → (r ≡ Ok f) ⊎ (r ≡ Err Memory)

-- The canonical text of a well-formed function is read as that function, unless memory runs out.
abbrev pub PrintsReadBack : Type 0
PrintsReadBack = (f : CFun) (r : Result CFun TextFault) → IsWellFormed f → IsAnswer (canonical_text f) r → (r ≡ Ok f) ⊎ (r ≡ Err Memory)
