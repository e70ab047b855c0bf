-- The parts that an instruction shows, and the fields of a form that they give.
use Rattle.std.specs.Prelude.{ℕ, ◌-◌, ◌%◌, Bool, if◌then◌else◌, Option, Some, None}
use Rattle.x86_inst.specs.declared.Inst.{Inst}
use Rattle.x86_inst.specs.declared.Inst.TheVariants.{Alu, Inc, Dec, Push, Pop, Imul3, Jcc, Test, Xchg, Mov, Lea, Nop, Widen, Spread, Str, Shift, Ret, Leave, Trap, Loop, Jecxz, Call, Jmp, Carry, Not, Neg, Mul, ImulWide, Div, Idiv, CallTo, JmpTo, Cmov, Set, Bit, DShift, Imul2, Movx, Scan, Bswap}
use Rattle.x86_inst.specs.declared.Size.{Size}
use Rattle.x86_inst.specs.declared.Size.TheVariants.{W}
use Rattle.x86_inst.specs.declared.Seg.{Seg}
use Rattle.x86_inst.specs.declared.Seg.TheVariants as seg
use Rattle.x86_inst.specs.declared.Operand.{Operand}
use Rattle.x86_inst.specs.declared.Operand.TheVariants as operand
use Rattle.x86_inst.specs.declared.AluOp.{AluOp}
use Rattle.x86_inst.specs.declared.AluOp.TheVariants.{Add, Or, Adc, Sbb, And, Sub, Xor, Cmp}
use Rattle.x86_inst.specs.declared.ShiftOp.{ShiftOp}
use Rattle.x86_inst.specs.declared.ShiftOp.TheVariants.{Rol, Ror, Shl, Shr, Sar}
use Rattle.x86_inst.specs.declared.BitOp.{BitOp}
use Rattle.x86_inst.specs.declared.BitOp.TheVariants.{Bt, Bts, Btr, Btc}
use Rattle.x86_inst.specs.declared.Rep.{Rep}
use Rattle.x86_inst.specs.declared.Rep.TheVariants as rep
use Rattle.x86_inst.specs.declared.Count.{Count}
use Rattle.x86_inst.specs.declared.Count.TheVariants as count
use Rattle.x86_inst.specs.Rows.{Fields}
use Rattle.x86_decode.specs.declared.forms.Form.{Form}
use Rattle.x86_decode.specs.declared.forms.Form.TheVariants as form
use Rattle.x86_decode.specs.declared.forms.Sizing.{Sizing}
use Rattle.x86_decode.specs.declared.forms.Sizing.TheVariants.{Byte, Prefixed}
use Rattle.x86_decode.specs.declared.forms.Immediate.{Immediate}
use Rattle.x86_decode.specs.declared.forms.Immediate.TheVariants.{Plain, Extended}
use Rattle.x86_decode.specs.declared.forms.Source.{Source}
use Rattle.x86_decode.specs.declared.forms.Source.TheVariants as source
use Rattle.x86_encode.specs.declared.parts.Parts.{Parts}

-- ---- numbers of operations

abbrev pub alu_digit : AluOp → ℕ
alu_digit Add = 0
alu_digit Or = 1
alu_digit Adc = 2
alu_digit Sbb = 3
alu_digit And = 4
alu_digit Sub = 5
alu_digit Xor = 6
alu_digit Cmp = 7

abbrev pub shift_digit : ShiftOp → ℕ
shift_digit Rol = 0
shift_digit Ror = 1
shift_digit Shl = 4
shift_digit Shr = 5
shift_digit Sar = 7

abbrev pub bit_digit : BitOp → ℕ
bit_digit Bt = 4
bit_digit Bts = 5
bit_digit Btr = 6
bit_digit Btc = 7

abbrev pub repeat_of : Rep → Option ℕ
repeat_of rep.No = None
repeat_of rep.Rep = Some 0xF3
repeat_of rep.Repe = Some 0xF3
repeat_of rep.Repne = Some 0xF2

abbrev pub count_number : Count → ℕ
count_number count.One = 0
count_number (count.Imm n) = n
count_number count.Cl = 0

abbrev pub tz_repeat : Bool → Option ℕ
tz_repeat tz = if tz then Some 0xF3 else None

-- ---- the parts

abbrev pub no_parts : Parts
no_parts = record { size = W; repeat = None; segment = seg.None; digit = 0; reg = 0; first = operand.Reg 0; second = operand.Reg 0; number = 0 }

abbrev pub parts_of : Inst → Parts
parts_of (Alu op size a b) = record no_parts { digit = alu_digit op; size = size; first = a; second = b }
parts_of (Inc size a) = record no_parts { size = size; first = a }
parts_of (Dec size a) = record no_parts { size = size; first = a }
parts_of (Push a) = record no_parts { first = a }
parts_of (Pop a) = record no_parts { first = a }
parts_of (Imul3 size reg a n) = record no_parts { size = size; reg = reg; first = a; number = n }
parts_of (Jcc cond n) = record no_parts { digit = cond.0; number = n }
parts_of (Test size a b) = record no_parts { size = size; first = a; second = b }
parts_of (Xchg size a b) = record no_parts { size = size; first = a; second = b }
parts_of (Mov size a b) = record no_parts { size = size; first = a; second = b }
parts_of (Lea size reg m) = record no_parts { size = size; reg = reg; first = operand.Mem m }
parts_of Nop = no_parts
parts_of (Widen size) = record no_parts { size = size }
parts_of (Spread size) = record no_parts { size = size }
parts_of (Str op size r s) = record no_parts { size = size; repeat = repeat_of r; segment = s }
parts_of (Shift op size a c) = record no_parts { digit = shift_digit op; size = size; first = a; number = count_number c }
parts_of (Ret n) = record no_parts { number = n }
parts_of Leave = no_parts
parts_of (Trap n) = no_parts
parts_of (Loop n) = record no_parts { number = n }
parts_of (Jecxz n) = record no_parts { number = n }
parts_of (Call n) = record no_parts { number = n }
parts_of (Jmp n) = record no_parts { number = n }
parts_of (Carry op) = no_parts
parts_of (Not size a) = record no_parts { size = size; first = a }
parts_of (Neg size a) = record no_parts { size = size; first = a }
parts_of (Mul size a) = record no_parts { size = size; first = a }
parts_of (ImulWide size a) = record no_parts { size = size; first = a }
parts_of (Div size a) = record no_parts { size = size; first = a }
parts_of (Idiv size a) = record no_parts { size = size; first = a }
parts_of (CallTo a) = record no_parts { first = a }
parts_of (JmpTo a) = record no_parts { first = a }
parts_of (Cmov cond size reg a) = record no_parts { digit = cond.0; size = size; reg = reg; first = a }
parts_of (Set cond a) = record no_parts { digit = cond.0; first = a }
parts_of (Bit op size a b) = record no_parts { digit = bit_digit op; size = size; first = a; second = b }
parts_of (DShift left a reg c) = record no_parts { first = a; reg = reg; number = count_number c }
parts_of (Imul2 size reg a) = record no_parts { size = size; reg = reg; first = a }
parts_of (Movx signed from size reg a) = record no_parts { size = size; reg = reg; first = a }
parts_of (Scan up size reg a tz) = record no_parts { size = size; reg = reg; first = a; repeat = tz_repeat tz }
parts_of (Bswap reg) = record no_parts { reg = reg }

-- ---- the fields

abbrev pub no_fields : Fields
no_fields = record { size = W; segment = seg.None; repeat = None; low = 0; reg = 0; rm = operand.Reg 0; imm = 0 }

abbrev pub named_segment : Operand → Seg
named_segment (operand.Reg r) = seg.None
named_segment (operand.Mem m) = m.seg
named_segment (operand.Imm n) = seg.None

abbrev pub register_of : Operand → ℕ
register_of (operand.Reg r) = r
register_of (operand.Mem m) = 0
register_of (operand.Imm n) = 0

abbrev pub number_in : Operand → ℕ
number_in (operand.Reg r) = 0
number_in (operand.Mem m) = m.disp
number_in (operand.Imm n) = n

abbrev pub stored : Immediate → ℕ → ℕ
stored Plain n = n
stored Extended n = n % 256

abbrev pub with_operand : Source → Operand → Fields → Fields
with_operand source.Rm o f = record f { rm = o; segment = named_segment o }
with_operand source.Reg o f = record f { reg = register_of o }
with_operand source.Low o f = record f { low = register_of o }
with_operand source.AfterLow o f = record f { low = register_of o - 1 }
with_operand source.Accumulator o f = f
with_operand (source.Imm k) o f = record f { imm = stored k (number_in o) }
with_operand source.Offset o f = record f { imm = number_in o; segment = named_segment o }

abbrev pub with_size : Sizing → Size → Fields → Fields
with_size Byte s f = f
with_size Prefixed s f = record f { size = s }

abbrev pub rm_fields : Parts → Fields
rm_fields p = with_operand source.Rm p.first no_fields

abbrev pub fields_from : Form → Parts → Fields
fields_from (form.AluByOpcode z a b) p = with_size z p.size (with_operand a p.first (with_operand b p.second (record no_fields { low = p.digit })))
fields_from (form.AluByReg z a b) p = with_size z p.size (with_operand a p.first (with_operand b p.second (record no_fields { reg = p.digit })))
fields_from (form.Inc z a) p = with_size z p.size (with_operand a p.first no_fields)
fields_from (form.Dec z a) p = with_size z p.size (with_operand a p.first no_fields)
fields_from (form.Push a) p = with_operand a p.first no_fields
fields_from (form.Pop a) p = with_operand a p.first no_fields
fields_from (form.Imul3 k) p = record (rm_fields p) { size = p.size; reg = p.reg; imm = stored k p.number }
fields_from (form.Jcc k) p = record no_fields { low = p.digit; imm = stored k p.number }
fields_from (form.Test z a b) p = with_size z p.size (with_operand a p.first (with_operand b p.second no_fields))
fields_from (form.Xchg z a b) p = with_size z p.size (with_operand a p.first (with_operand b p.second no_fields))
fields_from (form.Mov z a b) p = with_size z p.size (with_operand a p.first (with_operand b p.second no_fields))
fields_from form.Lea p = record (rm_fields p) { size = p.size; reg = p.reg }
fields_from form.Nop p = no_fields
fields_from form.Widen p = record no_fields { size = p.size }
fields_from form.Spread p = record no_fields { size = p.size }
fields_from (form.Str op z) p = with_size z p.size (record no_fields { repeat = p.repeat; segment = p.segment })
fields_from (form.Shift z c) p = with_size z p.size (record (rm_fields p) { reg = p.digit; imm = p.number })
fields_from form.RetImm p = record no_fields { imm = p.number }
fields_from form.Ret p = no_fields
fields_from form.Leave p = no_fields
fields_from (form.Trap n) p = no_fields
fields_from form.Loop p = record no_fields { imm = stored Extended p.number }
fields_from form.Jecxz p = record no_fields { imm = stored Extended p.number }
fields_from form.Call p = record no_fields { imm = p.number }
fields_from (form.Jmp k) p = record no_fields { imm = stored k p.number }
fields_from (form.Carry op) p = no_fields
fields_from (form.Not z) p = with_size z p.size (rm_fields p)
fields_from (form.Neg z) p = with_size z p.size (rm_fields p)
fields_from (form.Mul z) p = with_size z p.size (rm_fields p)
fields_from (form.ImulWide z) p = with_size z p.size (rm_fields p)
fields_from (form.Div z) p = with_size z p.size (rm_fields p)
fields_from (form.Idiv z) p = with_size z p.size (rm_fields p)
fields_from form.CallTo p = rm_fields p
fields_from form.JmpTo p = rm_fields p
fields_from form.Cmov p = record (rm_fields p) { low = p.digit; size = p.size; reg = p.reg }
fields_from form.Set p = record (rm_fields p) { low = p.digit }
fields_from form.BitByOpcode p = record (rm_fields p) { low = p.digit - 4; size = p.size; reg = register_of p.second }
fields_from form.BitByReg p = record (rm_fields p) { reg = p.digit; size = p.size; imm = number_in p.second }
fields_from (form.DShift left c) p = record (rm_fields p) { reg = p.reg; imm = p.number }
fields_from form.Imul2 p = record (rm_fields p) { size = p.size; reg = p.reg }
fields_from (form.MovxByte signed) p = record (rm_fields p) { size = p.size; reg = p.reg }
fields_from (form.MovxHalf signed) p = record (rm_fields p) { reg = p.reg }
fields_from (form.Scan up) p = record (rm_fields p) { size = p.size; reg = p.reg; repeat = p.repeat }
fields_from form.Bswap p = record no_fields { low = p.reg }
