-- The decoder's rows as rows of the opcode table, and how a row is found.
use Rattle.std.specs.Prelude.{ℕ, ◌+◌, ◌-◌, ◌/◌, ◌%◌, ◌^◌, Bool, true, false, ◌&&◌, ◌||◌, ◌==◌, nat_lt, if◌then◌else◌, Option, Some, None, is_some}
use Rattle.x86_inst.specs.declared.Inst.{Inst}
use Rattle.x86_inst.specs.declared.Inst.TheVariants.{Alu, Inc, Dec, Push, Pop, Imul3, Jcc, Test, Xchg, Mov, Lea, Nop, Widen, Spread, Str, Shift, Ret, Leave, Trap, Loop, Jecxz, Call, Jmp, Carry, Not, Neg, Mul, ImulWide, Div, Idiv, CallTo, JmpTo, Cmov, Set, Bit, DShift, Imul2, Movx, Scan, Bswap}
use Rattle.x86_inst.specs.declared.Size.{Size}
use Rattle.x86_inst.specs.declared.Size.TheVariants.{B, H, W}
use Rattle.x86_inst.specs.declared.Seg.{Seg}
use Rattle.x86_inst.specs.declared.Seg.TheVariants as seg
use Rattle.x86_inst.specs.declared.Operand.{Operand}
use Rattle.x86_inst.specs.declared.Operand.TheVariants as operand
use Rattle.x86_inst.specs.declared.Count.{Count}
use Rattle.x86_inst.specs.declared.Count.TheVariants as count
use Rattle.x86_inst.specs.declared.StrOp.{StrOp}
use Rattle.x86_inst.specs.declared.StrOp.TheVariants.{Movs, Cmps, Stos, Lods, Scas}
use Rattle.x86_inst.specs.declared.Rep.{Rep}
use Rattle.x86_inst.specs.Rows as spec
use Rattle.x86_inst.specs.Table.{alu_op, bit_op, shift_op, compare_repeat, plain_repeat, E, G, Z, O, I, M, accumulator, condition, byte_count, Jb}
use Rattle.x86_inst.specs.Spelling.{allows}
use Rattle.x86_decode.specs.declared.rows.Prefixes.{Prefixes}
use Rattle.x86_decode.specs.declared.build.Fields.{Fields}
use Rattle.x86_decode.specs.declared.rows.Repeats.{Repeats}
use Rattle.x86_decode.specs.declared.rows.Repeats.TheVariants.{Never, F3Allowed, F2F3Allowed, F3Needed}
use Rattle.x86_decode.specs.declared.rows.Mode.{Mode}
use Rattle.x86_decode.specs.declared.rows.Mode.TheVariants.{AnyModRm, MemoryOnly, RegisterOnly, Digit, DigitFrom, ShiftDigit, Exactly}
use Rattle.x86_decode.specs.declared.rows.Width.{Width}
use Rattle.x86_decode.specs.declared.rows.Width.TheVariants.{NoImm, Imm8, Imm16, ImmV, Imm32}
use Rattle.x86_decode.specs.declared.forms.Sizing.{Sizing}
use Rattle.x86_decode.specs.declared.forms.Sizing.TheVariants.{Byte, Prefixed}
use Rattle.x86_decode.specs.declared.forms.Immediate.{Immediate}
use Rattle.x86_decode.specs.declared.forms.Immediate.TheVariants.{Plain, Extended}
use Rattle.x86_decode.specs.declared.forms.Source.{Source}
use Rattle.x86_decode.specs.declared.forms.Source.TheVariants as source
use Rattle.x86_decode.specs.declared.forms.Shifted.{Shifted}
use Rattle.x86_decode.specs.declared.forms.Shifted.TheVariants.{ByOne, ByImm, ByCl}
use Rattle.x86_decode.specs.declared.forms.Form.{Form}
use Rattle.x86_decode.specs.declared.forms.Form.TheVariants as form
use Rattle.x86_decode.specs.declared.rows.Row.{Row}

-- the decoder's parts as those of the table
abbrev pub prefixes_of : Prefixes → spec.Prefixes
prefixes_of p = record { size = p.size; segment = p.segment; repeat = p.repeat }

abbrev pub fields_of : Fields → spec.Fields
fields_of f = record { size = f.size; segment = f.segment; repeat = f.repeat; low = f.low; reg = f.reg; rm = f.rm; imm = f.imm }

abbrev pub repeats_of : Repeats → spec.Repeats
repeats_of Never = spec.Never
repeats_of F3Allowed = spec.F3Allowed
repeats_of F2F3Allowed = spec.F2F3Allowed
repeats_of F3Needed = spec.F3Needed

abbrev pub mode_of : Mode → spec.Mode
mode_of AnyModRm = spec.AnyModRm
mode_of MemoryOnly = spec.MemoryOnly
mode_of RegisterOnly = spec.RegisterOnly
mode_of (Digit d) = spec.Digit d
mode_of (DigitFrom d) = spec.DigitFrom d
mode_of ShiftDigit = spec.ShiftDigit
mode_of (Exactly b) = spec.Exactly b

abbrev pub modrm_of : Option Mode → Option spec.Mode
modrm_of None = None
modrm_of (Some m) = Some (mode_of m)

abbrev pub width_of : Width → spec.Width
width_of NoImm = spec.NoImm
width_of Imm8 = spec.Imm8
width_of Imm16 = spec.Imm16
width_of ImmV = spec.ImmV
width_of Imm32 = spec.Imm32

-- the operand size of a form
abbrev pub size_of : Sizing → spec.Fields → Size
size_of Byte f = B
size_of Prefixed f = f.size

-- an immediate as it is taken
abbrev pub number_of : Immediate → Size → ℕ → ℕ
number_of Plain s n = n
number_of Extended s n = spec.sign_extended s n

-- the operand at a place
abbrev pub operand_of : Source → Size → spec.Fields → Operand
operand_of source.Rm s f = E f
operand_of source.Reg s f = G f
operand_of source.Low s f = Z f
operand_of source.AfterLow s f = operand.Reg (f.low + 1)
operand_of source.Accumulator s f = accumulator
operand_of (source.Imm k) s f = operand.Imm (number_of k s f.imm)
operand_of source.Offset s f = O f

-- how far a shift goes
abbrev pub count_of : Shifted → spec.Fields → Count
count_of ByOne f = count.One
count_of ByImm f = byte_count f
count_of ByCl f = count.Cl

-- a comparison repeats while equal, or while not equal
abbrev pub rep_of : StrOp → Option ℕ → Rep
rep_of Movs o = plain_repeat o
rep_of Cmps o = compare_repeat o
rep_of Stos o = plain_repeat o
rep_of Lods o = plain_repeat o
rep_of Scas o = compare_repeat o

-- the segment of the ESI operand, where there is one
abbrev pub string_segment : StrOp → Seg → Seg
string_segment Movs s = s
string_segment Cmps s = s
string_segment Stos s = seg.None
string_segment Lods s = s
string_segment Scas s = seg.None

-- the instruction of a form
abbrev pub inst_of : Form → spec.Fields → Inst
inst_of (form.AluByOpcode z a b) f = Alu (alu_op f.low) (size_of z f) (operand_of a (size_of z f) f) (operand_of b (size_of z f) f)
inst_of (form.AluByReg z a b) f = Alu (alu_op f.reg) (size_of z f) (operand_of a (size_of z f) f) (operand_of b (size_of z f) f)
inst_of (form.Inc z a) f = Inc (size_of z f) (operand_of a (size_of z f) f)
inst_of (form.Dec z a) f = Dec (size_of z f) (operand_of a (size_of z f) f)
inst_of (form.Push a) f = Push (operand_of a W f)
inst_of (form.Pop a) f = Pop (operand_of a W f)
inst_of (form.Imul3 k) f = Imul3 f.size f.reg f.rm (number_of k f.size f.imm)
inst_of (form.Jcc k) f = Jcc (condition f) (number_of k W f.imm)
inst_of (form.Test z a b) f = Test (size_of z f) (operand_of a (size_of z f) f) (operand_of b (size_of z f) f)
inst_of (form.Xchg z a b) f = Xchg (size_of z f) (operand_of a (size_of z f) f) (operand_of b (size_of z f) f)
inst_of (form.Mov z a b) f = Mov (size_of z f) (operand_of a (size_of z f) f) (operand_of b (size_of z f) f)
inst_of form.Lea f = Lea f.size f.reg (M f)
inst_of form.Nop f = Nop
inst_of form.Widen f = Widen f.size
inst_of form.Spread f = Spread f.size
inst_of (form.Str op z) f = Str op (size_of z f) (rep_of op f.repeat) (string_segment op f.segment)
inst_of (form.Shift z c) f = Shift (shift_op f.reg) (size_of z f) f.rm (count_of c f)
inst_of form.RetImm f = Ret (f.imm % 2 ^ 16)
inst_of form.Ret f = Ret 0
inst_of form.Leave f = Leave
inst_of (form.Trap n) f = Trap n
inst_of form.Loop f = Loop (Jb f)
inst_of form.Jecxz f = Jecxz (Jb f)
inst_of form.Call f = Call f.imm
inst_of (form.Jmp k) f = Jmp (number_of k W f.imm)
inst_of (form.Carry op) f = Carry op
inst_of (form.Not z) f = Not (size_of z f) f.rm
inst_of (form.Neg z) f = Neg (size_of z f) f.rm
inst_of (form.Mul z) f = Mul (size_of z f) f.rm
inst_of (form.ImulWide z) f = ImulWide (size_of z f) f.rm
inst_of (form.Div z) f = Div (size_of z f) f.rm
inst_of (form.Idiv z) f = Idiv (size_of z f) f.rm
inst_of form.CallTo f = CallTo f.rm
inst_of form.JmpTo f = JmpTo f.rm
inst_of form.Cmov f = Cmov (condition f) f.size f.reg f.rm
inst_of form.Set f = Set (condition f) f.rm
inst_of form.BitByOpcode f = Bit (bit_op f.low) f.size f.rm (G f)
inst_of form.BitByReg f = Bit (bit_op (f.reg - 4)) f.size f.rm (I f)
inst_of (form.DShift left c) f = DShift left f.rm f.reg (count_of c f)
inst_of form.Imul2 f = Imul2 f.size f.reg f.rm
inst_of (form.MovxByte signed) f = Movx signed B f.size f.reg f.rm
inst_of (form.MovxHalf signed) f = Movx signed H W f.reg f.rm
inst_of (form.Scan up) f = Scan up f.size f.reg f.rm (up && is_some f.repeat)
inst_of form.Bswap f = Bswap f.low

-- the decoder's row as a row of the opcode table
abbrev pub row_of : Row → spec.Row
row_of r = record {
  escape = r.escape;
  first = r.first;
  step = r.step;
  count = r.count;
  sized = r.sized;
  repeats = repeats_of r.repeats;
  modrm = modrm_of r.modrm;
  imm = width_of r.imm;
  inst = inst_of r.form;
}

-- the place of a number in first, first + step, .., of which there are count
abbrev pub place_in : (first step count op : ℕ) → Option ℕ
place_in first step count op =
    if step == 0 || nat_lt op first then None else
    if (op - first) % step == 0 && nat_lt ((op - first) / step) count then Some ((op - first) / step) else None

-- the place of an opcode in a row
abbrev pub place : spec.Row → ℕ → Option ℕ
place r op = place_in r.first r.step r.count op

-- both or neither
abbrev pub same_bool : Bool → Bool → Bool
same_bool true b = b
same_bool false true = false
same_bool false false = true

-- the row has the opcode, and the prefixes may stand on it
abbrev pub opens : spec.Prefixes → Bool → ℕ → spec.Row → Bool
opens p escape op r = same_bool r.escape escape && (is_some (place r op) && allows r p)

-- the row has ModRM, and takes the byte
abbrev pub takes_modrm : Option spec.Mode → ℕ → Bool
takes_modrm None m = false
takes_modrm (Some k) m = spec.takes k m

-- and the row takes the ModRM byte
abbrev pub opens_at : spec.Prefixes → Bool → ℕ → ℕ → spec.Row → Bool
opens_at p escape op m r = opens p escape op r && takes_modrm r.modrm m
