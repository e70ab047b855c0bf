-- What a decoder answers.
use Rattle.std.specs.Prelude.{ℕ, ◌≤◌, List, ◌++◌, length, take}
use Rattle.x86_inst.specs.declared.Inst.{Inst}
use Rattle.x86_inst.specs.Spelling.{Spells}
use Rattle.x86_decode.specs.declared.decoder.Decoded.{Decoded}
use Rattle.x86_decode.specs.declared.decoder.Decoded.TheVariants as decoded

-- no front of the bytes is a spelling
abbrev pub NoneBegins : List ℕ → Type 0
NoneBegins x = (n : ℕ) (i : Inst) → Spells (take n x) i → ⊥

-- some longer input that begins with the bytes is a spelling
abbrev pub IsBegun : List ℕ → Type 0
IsBegun x = (y : List ℕ) × (i : Inst) × Spells (x ++ y) i

-- Inst exactly where a front of the bytes is a spelling, with its length; Cut exactly where none is and
-- some longer input that begins so is one; None in all other cases.
abbrev pub Decodes : List ℕ → Decoded → Type 0
Decodes x (decoded.Inst i n) = (n ≤ length x) × Spells (take n x) i
Decodes x decoded.Cut = NoneBegins x × IsBegun x
Decodes x decoded.None = NoneBegins x × (IsBegun x → ⊥)
