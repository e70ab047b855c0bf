-- The numbers of the locals of each kind.
use Rattle.std.specs.Prelude.{ℕ, nat_eq, nat_lt, if◌then◌else◌, List, [], ◌∷◌}
use Rattle.dream_words.specs.declared.machine.Name.{Name}
use Rattle.dream_words.specs.declared.machine.Name.TheVariants as name

-- a number put among ascending ones, each of which stands once
abbrev pub with_number : List ℕ → ℕ → List ℕ
with_number [] n = n ∷ []
with_number (k ∷ ks) n = if nat_lt n k then n ∷ k ∷ ks else (if nat_eq n k then k ∷ ks else k ∷ with_number ks n)

-- The numbers of the locals for words, for tests and for selecting, ascending, each once.
pub record Locals : Type 0 where
  pub temps : List ℕ
  pub bools : List ℕ
  pub selectors : List ℕ

-- no locals
abbrev pub no_locals : Locals
no_locals = record { temps = []; bools = []; selectors = [] }

-- a name put among the locals, if it is one
abbrev pub with_local : Locals → Name → Locals
with_local l (name.Reg n) = l
with_local l (name.Flag n) = l
with_local l name.Fs = l
with_local l name.Gs = l
with_local l (name.T n) = record l { temps = with_number l.temps n }
with_local l (name.B n) = record l { bools = with_number l.bools n }
with_local l (name.S n) = record l { selectors = with_number l.selectors n }

-- the locals with those among the names
abbrev pub with_locals : Locals → List Name → Locals
with_locals l [] = l
with_locals l (n ∷ ns) = with_locals (with_local l n) ns

-- the locals among the names
abbrev pub locals_of : List Name → Locals
locals_of ns = with_locals no_locals ns
