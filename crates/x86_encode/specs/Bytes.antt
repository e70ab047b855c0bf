-- The bytes of a code, and the least bytes of prefixes, of an operand and of a row.
use Rattle.std.specs.Prelude.{ℕ, ◌+◌, ◌*◌, ◌/◌, ◌%◌, ◌<◌, Bool, true, false, ◌&&◌, ◌||◌, ◌==◌, nat_lt, nat_le, if◌then◌else◌, List, [], ◌∷◌, ◌++◌, take, Option, Some, None, IsTrue}
use Rattle.std.specs.Option.{option_to_list}
use Rattle.x86_inst.specs.declared.Size.{Size}
use Rattle.x86_inst.specs.declared.Size.TheVariants.{B, H, W}
use Rattle.x86_inst.specs.declared.Seg.{Seg}
use Rattle.x86_inst.specs.declared.Seg.TheVariants as seg
use Rattle.x86_inst.specs.declared.Mem.{Mem}
use Rattle.x86_inst.specs.declared.Operand.{Operand}
use Rattle.x86_inst.specs.declared.Operand.TheVariants as operand
use Rattle.x86_inst.specs.Rows.{Fields, width}
use Rattle.x86_inst.specs.Spelling.{opcode, opcode_bytes}
use Rattle.x86_decode.specs.declared.rows.Row.{Row}
use Rattle.x86_decode.specs.declared.rows.Mode.{Mode}
use Rattle.x86_decode.specs.declared.rows.Mode.TheVariants.{AnyModRm, MemoryOnly, RegisterOnly, Digit, DigitFrom, ShiftDigit, Exactly}
use Rattle.x86_decode.specs.View.{row_of, width_of}
use Rattle.x86_encode.specs.declared.code.Code.{Code}

-- the first `len` bytes
abbrev pub bytes_of : Code → List ℕ
bytes_of c = take c.len c.bytes

-- ---- numbers

-- four little-endian bytes
abbrev pub four_bytes : ℕ → List ℕ
four_bytes n = n % 256 ∷ n / 256 % 256 ∷ n / 65536 % 256 ∷ n / 16777216 % 256 ∷ []

-- x, and an immediate of a width
abbrev pub with_immediate : List ℕ → (width n : ℕ) → List ℕ
with_immediate x width n =
    if width == 0 then x else if width == 1 then x ++ (n % 256 ∷ []) else
    if width == 2 then x ++ (n % 256 ∷ n / 256 % 256 ∷ []) else x ++ four_bytes n

-- ---- an operand

-- the number is that of a sign-extended byte
abbrev pub fits_byte : ℕ → Bool
fits_byte n = nat_lt n 128 || nat_le 0xFFFFFF80 n

-- The least mod of a displacement from a base. Base 5 with mod 0 is no base.
abbrev pub least_mod : (base disp : ℕ) → ℕ
least_mod base disp = if disp == 0 then (if base == 5 then 1 else 0) else if fits_byte disp then 1 else 2

-- x, and the displacement of a mod
abbrev pub with_displacement : List ℕ → (md disp : ℕ) → List ℕ
with_displacement x md disp = if md == 1 then x ++ (disp % 256 ∷ []) else if md == 2 then x ++ four_bytes disp else x

-- the top two bits of SIB
abbrev pub scale_bits : ℕ → ℕ
scale_bits s = if s == 1 then 0 else if s == 2 then 1 else if s == 4 then 2 else 3

abbrev pub is_scale : ℕ → Bool
is_scale s = s == 1 || (s == 2 || (s == 4 || s == 8))

-- x, and the least bytes of an address with a register in the reg field
abbrev pub with_memory : List ℕ → (reg : ℕ) → (base index : Option ℕ) → (scale disp : ℕ) → List ℕ
with_memory x reg None None scale disp = (x ++ ((64 * 0 + 8 * reg + 5) ∷ [])) ++ four_bytes disp
with_memory x reg None (Some i) scale disp = (x ++ ((64 * 0 + 8 * reg + 4) ∷ (64 * scale_bits scale + 8 * i + 5) ∷ [])) ++ four_bytes disp
with_memory x reg (Some b) None scale disp =
    with_displacement (if b == 4 then x ++ ((64 * least_mod b disp + 8 * reg + 4) ∷ 0x24 ∷ []) else x ++ ((64 * least_mod b disp + 8 * reg + b) ∷ [])) (least_mod b disp) disp
with_memory x reg (Some b) (Some i) scale disp =
    with_displacement (x ++ ((64 * least_mod b disp + 8 * reg + 4) ∷ (64 * scale_bits scale + 8 * i + b) ∷ [])) (least_mod b disp) disp

-- x, and the least bytes of an r/m operand
abbrev pub with_rm : List ℕ → (reg : ℕ) → Operand → List ℕ
with_rm x reg (operand.Reg r) = x ++ ((64 * 3 + 8 * reg + r) ∷ [])
with_rm x reg (operand.Mem m) = with_memory x reg m.base m.index m.scale m.disp
with_rm x reg (operand.Imm n) = x

-- a register or none
abbrev pub is_register : Option ℕ → Bool
is_register None = true
is_register (Some r) = nat_lt r 8

-- the parts of the address fit their fields
abbrev pub is_address : Mem → Bool
is_address m = is_register m.base && (is_register m.index && is_scale m.scale)

-- the operand fits ModRM and SIB
abbrev pub is_rm : ℕ → Operand → Bool
is_rm reg (operand.Reg r) = nat_lt reg 8 && nat_lt r 8
is_rm reg (operand.Mem m) = nat_lt reg 8 && is_address m
is_rm reg (operand.Imm n) = false

-- ---- a row

-- the prefix of an operand size, and of a segment
abbrev pub size_prefix : Size → Option ℕ
size_prefix B = None
size_prefix H = Some 0x66
size_prefix W = None

abbrev pub segment_prefix : Seg → Option ℕ
segment_prefix seg.None = None
segment_prefix seg.Fs = Some 0x64
segment_prefix seg.Gs = Some 0x65

-- the prefixes that give the fields, in ascending order
abbrev pub prefix_bytes : Fields → List ℕ
prefix_bytes f = (option_to_list (segment_prefix f.segment) ++ option_to_list (size_prefix f.size)) ++ option_to_list f.repeat

-- a mode that names a digit has it in the reg field
abbrev pub reg_for : Mode → ℕ → ℕ
reg_for AnyModRm reg = reg
reg_for MemoryOnly reg = reg
reg_for RegisterOnly reg = reg
reg_for (Digit d) reg = d
reg_for (DigitFrom d) reg = reg
reg_for ShiftDigit reg = reg
reg_for (Exactly b) reg = reg

-- x, and ModRM with what completes it, where the row has one
abbrev pub with_modrm : List ℕ → Option Mode → Fields → List ℕ
with_modrm x None f = x
with_modrm x (Some k) f = with_rm x (reg_for k f.reg) f.rm

-- the least bytes of a row that give the fields
abbrev pub spelling_of : Row → Fields → List ℕ
spelling_of r f =
    with_immediate (with_modrm (prefix_bytes f ++ opcode_bytes r.escape (opcode (row_of r) f.low)) r.modrm f) (width (width_of r.imm) f.size) f.imm

abbrev pub has_rm : Option Mode → Fields → Bool
has_rm None f = true
has_rm (Some k) f = is_rm (reg_for k f.reg) f.rm

-- the fields fit the row's opcode, ModRM and SIB
abbrev pub HasSpelling : Row → Fields → Type 0
HasSpelling r f = (opcode (row_of r) f.low < 256) × IsTrue (has_rm r.modrm f)
