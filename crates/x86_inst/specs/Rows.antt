-- What a row of the opcode table says: columns as in the instruction pages of the SDM. (Intel SDM vol. 2, 3.1.1.)
use Rattle.std.specs.Prelude.{ℕ, ◌+◌, ◌/◌, ◌%◌, Bool, true, false, ◌||◌, ◌==◌, nat_lt, nat_le, if◌then◌else◌, Option, Some, None}
use Rattle.x86_inst.specs.declared.Inst.{Inst}
use Rattle.x86_inst.specs.declared.Size.{Size}
use Rattle.x86_inst.specs.declared.Size.TheVariants.{B, H, W}
use Rattle.x86_inst.specs.declared.Seg.{Seg}
use Rattle.x86_inst.specs.declared.Seg.TheVariants as seg
use Rattle.x86_inst.specs.declared.Operand.{Operand}

-- The prefixes of an instruction, each by its byte: the operand size (66), a segment (26 2E 36 3E 64
-- 65), and a repeat (F2 F3).
pub record Prefixes : Type 0 where
  pub size : Option ℕ
  pub segment : Option ℕ
  pub repeat : Option ℕ

-- the size of an operand that has no fixed size
abbrev pub operand_size : Option ℕ → Size
operand_size None = W
operand_size (Some b) = H

-- the segment whose base is added: only those of 64 and 65 have one
abbrev pub segment_of : Option ℕ → Seg
segment_of None = seg.None
segment_of (Some b) = if b == 0x64 then seg.Fs else if b == 0x65 then seg.Gs else seg.None

-- which repeat prefixes stand on a row: none, F3, F3 and F2, or F3 always
pub data Repeats : Type 0 where
  Never : Repeats
  F3Allowed : Repeats
  F2F3Allowed : Repeats
  F3Needed : Repeats

-- whether a repeat prefix, if there is one, may stand
abbrev pub allows_repeat : Repeats → Option ℕ → Bool
allows_repeat Never None = true
allows_repeat Never (Some b) = false
allows_repeat F3Allowed None = true
allows_repeat F3Allowed (Some b) = b == 0xF3
allows_repeat F2F3Allowed o = true
allows_repeat F3Needed None = false
allows_repeat F3Needed (Some b) = b == 0xF3

-- which ModRM bytes a row takes: any, those of memory, those of a register, those with a digit in the
-- reg field, one from a digit on, or that of a shift (0, 1, 4, 5, 7), or a single one
pub data Mode : Type 0 where
  AnyModRm : Mode
  MemoryOnly : Mode
  RegisterOnly : Mode
  Digit : ℕ → Mode
  DigitFrom : ℕ → Mode
  ShiftDigit : Mode
  Exactly : ℕ → Mode

-- whether the row takes the ModRM byte; its reg field is the three bits in the middle
abbrev pub takes : Mode → ℕ → Bool
takes AnyModRm m = true
takes MemoryOnly m = nat_lt m 192
takes RegisterOnly m = nat_le 192 m
takes (Digit d) m = m / 8 % 8 == d
takes (DigitFrom d) m = nat_le d (m / 8 % 8)
takes ShiftDigit m = m / 8 % 8 == 0 || (m / 8 % 8 == 1 || (m / 8 % 8 == 4 || (m / 8 % 8 == 5 || m / 8 % 8 == 7)))
takes (Exactly b) m = m == b

-- the immediate at the end: none, 1 byte, 2 bytes, 2 or 4 by the operand size, or 4 bytes
pub data Width : Type 0 where
  NoImm : Width
  Imm8 : Width
  Imm16 : Width
  ImmV : Width
  Imm32 : Width

-- in bytes
abbrev pub width : Width → Size → ℕ
width NoImm s = 0
width Imm8 s = 1
width Imm16 s = 2
width ImmV B = 1
width ImmV H = 2
width ImmV W = 4
width Imm32 s = 4

-- What the bytes give to the instruction. `low` is the place of the opcode in its row: a register, a
-- condition or an operation. `reg` and `rm` are those of ModRM, where the row has one.
pub record Fields : Type 0 where
  pub size : Size
  pub segment : Seg
  pub repeat : Option ℕ
  pub low : ℕ
  pub reg : ℕ
  pub rm : Operand
  pub imm : ℕ

-- A row: whether 0F stands before the opcode; the opcodes first, first + step, .., of which there are
-- count; whether 66 may stand; the repeats; ModRM; the immediate; and the instruction.
pub record Row : Type 0 where
  pub escape : Bool
  pub first : ℕ
  pub step : ℕ
  pub count : ℕ
  pub sized : Bool
  pub repeats : Repeats
  pub modrm : Option Mode
  pub imm : Width
  pub inst : Fields → Inst

-- a row of one opcode, on which neither 66 nor a repeat stands
abbrev pub row : ℕ → Option Mode → Width → (Fields → Inst) → Row
row op modrm imm inst = record { escape = false; first = op; step = 1; count = 1; sized = false; repeats = Never; modrm = modrm; imm = imm; inst = inst }

-- a row with n opcodes, step apart
abbrev pub each : ℕ → ℕ → Row → Row
each n step r = record r { count = n; step = step }

-- 0F stands before the opcode
abbrev pub after_0F : Row → Row
after_0F r = record r { escape = true }

-- 66 may stand
abbrev pub sized : Row → Row
sized r = record r { sized = true }

-- these repeat prefixes may stand
abbrev pub with_repeats : Repeats → Row → Row
with_repeats k r = record r { repeats = k }

-- the low byte, sign-extended and taken to a size without sign
abbrev pub sign_extended : Size → ℕ → ℕ
sign_extended B n = n % 256
sign_extended H n = if nat_lt (n % 256) 128 then n % 256 else n % 256 + 0xFF00
sign_extended W n = if nat_lt (n % 256) 128 then n % 256 else n % 256 + 0xFFFFFF00
