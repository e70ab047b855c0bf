-- The order of spellings: shorter first, and among equally long ones the least, byte by byte.
use Rattle.std.specs.Prelude.{◌≡◌, ℕ, ◌<◌, ◌≤◌, List, [], ◌∷◌, length, ◌⊎◌, Option, Some, None, IsSomeAnd}
use Rattle.x86_inst.specs.declared.Inst.{Inst}
use Rattle.x86_inst.specs.Spelling.{Spells}
use Rattle.x86_decode.specs.declared.rows.Row.{Row}
use Rattle.x86_decode.specs.declared.decoder.Decoded.{Decoded}
use Rattle.x86_decode.specs.declared.decoder.Decoded.TheVariants as decoded
use Rattle.x86_decode.specs.Decodes.{Decodes}
use Rattle.x86_encode.specs.declared.code.Code.{Code}
use Rattle.x86_encode.specs.Bytes.{bytes_of, spelling_of, HasSpelling}
use Rattle.x86_encode.specs.Parts.{parts_of, fields_from}

-- x is no greater than y, byte by byte; where one is a front of the other, the front is
abbrev pub NoGreater : List ℕ → List ℕ → Type 0
NoGreater [] y = Unit {0}
NoGreater (a ∷ x) [] = ⊥
NoGreater (a ∷ x) (b ∷ y) = (a < b) ⊎ ((a ≡ b) × NoGreater x y)

-- x is shorter than y, or as long and no greater
abbrev pub AtMost : List ℕ → List ℕ → Type 0
AtMost x y = (length x < length y) ⊎ ((length x ≡ length y) × NoGreater x y)

-- What an encoder answers: a spelling that is at most every spelling, or None where there is none.
abbrev pub Encodes : Inst → Option Code → Type 0
Encodes i (Some c) = (c.len ≤ 15) × Spells (bytes_of c) i × ((y : List ℕ) → Spells y i → AtMost (bytes_of c) y)
Encodes i None = (y : List ℕ) → Spells y i → ⊥

-- What a decoder answers to the bytes of the code is the instruction, with their number.
abbrev pub ReadsBack : Inst → Code → Type 0
ReadsBack i c = (d : Decoded) → Decodes (bytes_of c) d → d ≡ decoded.Inst i c.len

-- ---- steps of the encoder

-- the code is a spelling
abbrev pub SpellsIt : Inst → Code → Type 0
SpellsIt i c = (c.len ≤ 15) × Spells (bytes_of c) i × ReadsBack i c

-- where the least bytes of the row that give the parts of the instruction spell it, the result has them
abbrev pub Reaches : Row → Inst → Option Code → Type 0
Reaches r i result =
    HasSpelling r (fields_from r.form (parts_of i)) → Spells (spelling_of r (fields_from r.form (parts_of i))) i →
    IsSomeAnd result (λ c. bytes_of c ≡ spelling_of r (fields_from r.form (parts_of i)))

-- the result is the first of what there is
abbrev pub IsLeastOf : Option Code → Option Code → Option Code → Type 0
IsLeastOf None other result = result ≡ other
IsLeastOf (Some a) None result = result ≡ Some a
IsLeastOf (Some a) (Some b) result =
    ((result ≡ Some a) × AtMost (bytes_of a) (bytes_of b)) ⊎ ((result ≡ Some b) × AtMost (bytes_of b) (bytes_of a))
