-- Which bytes spell which instruction: prefixes, opcode, ModRM, SIB, displacement, immediate. (Intel SDM vol. 2, 2.1, Instruction Format.)
use Rattle.std.specs.Prelude.{◌≡◌, ℕ, ◌+◌, ◌*◌, ◌/◌, ◌%◌, ◌<◌, ◌^◌, Bool, true, false, ◌&&◌, ◌||◌, ◌==◌, nat_lt, if◌then◌else◌, List, [], ◌∷◌, ◌++◌, length, Option, Some, None, IsTrue, MatchBool, filter, slice_get}
use Rattle.std.specs.Option.{option_to_list}
use Rattle.x86_inst.specs.declared.Inst.{Inst}
use Rattle.x86_inst.specs.declared.Seg.{Seg}
use Rattle.x86_inst.specs.declared.Operand.{Operand}
use Rattle.x86_inst.specs.declared.Operand.TheVariants as operand
use Rattle.x86_inst.specs.Rows.{Prefixes, operand_size, segment_of, allows_repeat, Mode, takes, width, Fields, Row}
use Rattle.x86_inst.specs.Table.{table}

-- each is a byte
abbrev pub AreBytes : List ℕ → Type 0
AreBytes [] = Unit {0}
AreBytes (b ∷ bs) = (b < 256) × AreBytes bs

-- the number of little-endian bytes
abbrev pub little_endian : List ℕ → ℕ
little_endian [] = 0
little_endian (b ∷ bs) = b + 256 * little_endian bs

-- ---- prefixes (Intel SDM vol. 2, 2.1.1)

-- the operand-size prefix
abbrev pub is_size : ℕ → Bool
is_size b = b == 0x66

-- the segment-override prefixes
abbrev pub is_segment : ℕ → Bool
is_segment b = b == 0x26 || (b == 0x2E || (b == 0x36 || (b == 0x3E || (b == 0x64 || b == 0x65))))

-- the repeat prefixes
abbrev pub is_repeat : ℕ → Bool
is_repeat b = b == 0xF2 || b == 0xF3

-- each is one of these
abbrev pub AllPrefixBytes : List ℕ → Type 0
AllPrefixBytes [] = Unit {0}
AllPrefixBytes (b ∷ bs) = IsTrue (is_size b || (is_segment b || is_repeat b)) × AllPrefixBytes bs

-- prefix bytes in any order, at most one of each group
pub record ArePrefixes (bytes : List ℕ) (p : Prefixes) : Type 0 where
  pub only : AllPrefixBytes bytes
  pub size : filter is_size bytes ≡ option_to_list p.size
  pub segment : filter is_segment bytes ≡ option_to_list p.segment
  pub repeat : filter is_repeat bytes ≡ option_to_list p.repeat

-- whether an operand-size prefix, if there is one, may stand
abbrev pub allows_size : Bool → Option ℕ → Bool
allows_size sized None = true
allows_size sized (Some b) = sized

-- whether these prefixes may stand on a row
abbrev pub allows : Row → Prefixes → Bool
allows r p = allows_size r.sized p.size && allows_repeat r.repeats p.repeat

-- ---- ModRM and SIB (Intel SDM vol. 2, 2.1.5, tables 2-2 and 2-3)

-- Base 5 with mod 0 is no base. `base` is the rm field, or with a SIB byte that byte's base field.
abbrev pub base_of : (md base : ℕ) → Option ℕ
base_of md base = if md == 0 && base == 5 then None else Some base

-- mod 1 has a displacement of one byte, mod 2 one of four, and base 5 with mod 0 one of four
abbrev pub displacement_len : (md base : ℕ) → ℕ
displacement_len md base =
    if md == 1 then 1 else if md == 2 then 4 else if base == 5 then 4 else 0

-- a displacement of one byte is sign-extended
abbrev pub displacement : List ℕ → ℕ
displacement [] = 0
displacement (b ∷ []) = if nat_lt b 128 then b else b + 0xFFFFFF00
displacement (b ∷ c ∷ bs) = little_endian (b ∷ c ∷ bs)

-- index 4 is none (esp is no index)
abbrev pub index_of : ℕ → Option ℕ
index_of index = if index == 4 then None else Some index

-- 1, 2, 4 or 8 by the top two bits, and 1 without an index
abbrev pub scale_of : (ss index : ℕ) → ℕ
scale_of ss index = if index == 4 then 1 else 2 ^ ss

-- the memory operand of these fields
abbrev pub mem : Seg → (md base : ℕ) → Option ℕ → (scale : ℕ) → List ℕ → Operand
mem seg md base index scale disp =
    operand.Mem (record { base = base_of md base; index = index; scale = scale; disp = displacement disp; seg = seg })

-- a SIB byte (scale, index, base) and a displacement
abbrev pub IsSib : Seg → (md : ℕ) → List ℕ → Operand → Type 0
IsSib seg md [] o = ⊥
IsSib seg md (sib ∷ disp) o =
    (length disp ≡ displacement_len md (sib % 8)) ×
    (o ≡ mem seg md (sib % 8) (index_of (sib / 8 % 8)) (scale_of (sib / 64) (sib / 8 % 8)) disp)

-- a base, or none, and a displacement
abbrev pub IsDisplaced : Seg → (md rm : ℕ) → List ℕ → Operand → Type 0
IsDisplaced seg md rm disp o = (length disp ≡ displacement_len md rm) × (o ≡ mem seg md rm None 1 disp)

-- a register alone
abbrev pub IsRegister : (rm : ℕ) → List ℕ → Operand → Type 0
IsRegister rm s o = (s ≡ []) × (o ≡ operand.Reg rm)

-- The bytes after ModRM that complete the r/m operand: mod 3 is a register, and rm 4 takes a SIB byte.
abbrev pub IsRm : Seg → (md rm : ℕ) → List ℕ → Operand → Type 0
IsRm seg md rm s o = MatchBool (md == 3) (IsRegister rm s o) (MatchBool (rm == 4) (IsSib seg md s o) (IsDisplaced seg md rm s o))

-- ---- a row

-- the row's opcode at a place
abbrev pub opcode : Row → ℕ → ℕ
opcode r low = r.first + r.step * low

-- with 0F before it, where the row has that
abbrev pub opcode_bytes : Bool → ℕ → List ℕ
opcode_bytes true op = 0x0F ∷ op ∷ []
opcode_bytes false op = op ∷ []

-- what these prefixes, place, reg field, operand and immediate give to the instruction
abbrev pub fields : Prefixes → (low reg : ℕ) → Operand → (imm : ℕ) → Fields
fields p low reg rm imm = record {
  size = operand_size p.size;
  segment = segment_of p.segment;
  repeat = p.repeat;
  low = low;
  reg = reg;
  rm = rm;
  imm = imm;
}

-- The bytes after the opcode, where ModRM is m: what completes its operand, and the immediate.
pub record Completes (r : Row) (p : Prefixes) (low m : ℕ) (s : List ℕ) (i : Inst) : Type 0 where
  pub address : List ℕ
  pub imm : List ℕ
  pub rm : Operand
  pub bytes : s ≡ address ++ imm
  pub operand : IsRm (segment_of p.segment) (m / 64) (m % 8) address rm
  pub width : length imm ≡ width r.imm (operand_size p.size)
  pub inst : i ≡ r.inst (fields p low (m / 8 % 8) rm (little_endian imm))

-- The bytes after the opcode: without ModRM the immediate alone, else a ModRM byte that the row takes and what completes it.
abbrev pub Operands : Row → Prefixes → (low : ℕ) → Option Mode → List ℕ → Inst → Type 0
Operands r p low None s i =
    (length s ≡ width r.imm (operand_size p.size)) × (i ≡ r.inst (fields p low 0 (operand.Reg 0) (little_endian s)))
Operands r p low (Some k) [] i = ⊥
Operands r p low (Some k) (m ∷ s) i = IsTrue (takes k m) × Completes r p low m s i

-- The bytes after the prefixes: an opcode of a row on which these prefixes may stand, and what the row
-- wants after it.
pub record Follows (p : Prefixes) (s : List ℕ) (i : Inst) : Type 0 where
  pub r : Row
  pub place : ℕ
  pub low : ℕ
  pub rest : List ℕ
  pub listed : slice_get table place ≡ Some r
  pub allowed : IsTrue (allows r p)
  pub within : low < r.count
  pub bytes : s ≡ opcode_bytes r.escape (opcode r low) ++ rest
  pub operands : Operands r p low r.modrm rest i

-- The bytes x spell the instruction i.
pub record Spells (x : List ℕ) (i : Inst) : Type 0 where
  pub prefix : List ℕ
  pub p : Prefixes
  pub s : List ℕ
  pub bytes : x ≡ prefix ++ s
  pub are_bytes : AreBytes x
  pub prefixes : ArePrefixes prefix p
  pub follows : Follows p s i

-- No spelling is a proper prefix of another, and a byte string spells at most one instruction.
abbrev pub OneReading : Type 0
OneReading = (x y : List ℕ) (i j : Inst) → Spells x i → Spells (x ++ y) j → (y ≡ []) × (i ≡ j)
