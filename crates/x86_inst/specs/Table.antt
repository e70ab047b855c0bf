-- The opcode table: which opcode, with which prefixes, ModRM bytes and immediate, makes which instruction.
-- (Intel SDM vol. 2, chapters 3 to 5 and appendix A.)
use Rattle.std.specs.Prelude.{ℕ, ◌+◌, ◌-◌, true, false, ◌%◌, ◌^◌, List, [], ◌∷◌, Option, Some, None, is_some, ◌==◌, if◌then◌else◌}
use Rattle.x86_inst.specs.declared.Inst.TheVariants.{Alu, Inc, Dec, Push, Pop, Imul3, Jcc, Test, Xchg, Mov, Lea, Nop, Widen, Spread, Str, Shift, Ret, Leave, Trap, Loop, Jecxz, Call, Jmp, Carry, Not, Neg, Mul, ImulWide, Div, Idiv, CallTo, JmpTo, Cmov, Set, Bit, DShift, Imul2, Movx, Scan, Bswap}
use Rattle.x86_inst.specs.declared.Size.TheVariants.{B, H, W}
use Rattle.x86_inst.specs.declared.Seg.TheVariants as seg
use Rattle.x86_inst.specs.declared.Mem.{Mem}
use Rattle.x86_inst.specs.declared.Operand.{Operand}
use Rattle.x86_inst.specs.declared.Operand.TheVariants as operand
use Rattle.x86_inst.specs.declared.Cond.{Cond}
use Rattle.x86_inst.specs.declared.AluOp.{AluOp}
use Rattle.x86_inst.specs.declared.AluOp.TheVariants.{Add, Or, Adc, Sbb, And, Sub, Xor, Cmp}
use Rattle.x86_inst.specs.declared.BitOp.TheVariants.{Bt, Bts, Btr, Btc}
use Rattle.x86_inst.specs.declared.BitOp.{BitOp}
use Rattle.x86_inst.specs.declared.ShiftOp.{ShiftOp}
use Rattle.x86_inst.specs.declared.ShiftOp.TheVariants.{Rol, Ror, Shl, Shr, Sar}
use Rattle.x86_inst.specs.declared.CarryOp.TheVariants.{Flip, Clear, Put}
use Rattle.x86_inst.specs.declared.Count.{Count}
use Rattle.x86_inst.specs.declared.Count.TheVariants as count
use Rattle.x86_inst.specs.declared.StrOp.TheVariants.{Movs, Cmps, Stos, Lods, Scas}
use Rattle.x86_inst.specs.declared.Rep.{Rep}
use Rattle.x86_inst.specs.declared.Rep.TheVariants as rep
use Rattle.x86_inst.specs.Rows.{F3Allowed, F2F3Allowed, F3Needed, Mode, AnyModRm, MemoryOnly, RegisterOnly, Digit, DigitFrom, ShiftDigit, Exactly, NoImm, Imm8, Imm16, ImmV, Imm32, Fields, Row, row, each, after_0F, sized, with_repeats, sign_extended}

-- ---- operations by their digits

-- ADD OR ADC SBB AND SUB XOR CMP. (Intel SDM vol. 2, table A-6, group 1.)
abbrev pub alu_op : ℕ → AluOp
alu_op n =
    if n == 0 then Add else if n == 1 then Or else if n == 2 then Adc else if n == 3 then Sbb else
    if n == 4 then And else if n == 5 then Sub else if n == 6 then Xor else Cmp

-- BT BTS BTR BTC, counted from 0. (Table A-6, group 8.)
abbrev pub bit_op : ℕ → BitOp
bit_op n = if n == 0 then Bt else if n == 1 then Bts else if n == 2 then Btr else Btc

-- /0 ROL, /1 ROR, /4 SHL, /5 SHR, /7 SAR. (Table A-6, group 2.)
abbrev pub shift_op : ℕ → ShiftOp
shift_op n = if n == 0 then Rol else if n == 1 then Ror else if n == 4 then Shl else if n == 5 then Shr else Sar

-- F3 repeats while equal and F2 while not equal, on a comparison
abbrev pub compare_repeat : Option ℕ → Rep
compare_repeat None = rep.No
compare_repeat (Some b) = if b == 0xF3 then rep.Repe else rep.Repne

-- F3 repeats
abbrev pub plain_repeat : Option ℕ → Rep
plain_repeat None = rep.No
plain_repeat (Some b) = rep.Rep

-- ---- operands, by the letters of the SDM (vol. 2, A.2)

-- the r/m operand
abbrev pub E : Fields → Operand
E f = f.rm

-- the register of the reg field
abbrev pub G : Fields → Operand
G f = operand.Reg f.reg

-- the register of the opcode's low three bits
abbrev pub Z : Fields → Operand
Z f = operand.Reg f.low

-- al, ax or eax
abbrev pub accumulator : Operand
accumulator = operand.Reg 0

-- the immediate
abbrev pub I : Fields → Operand
I f = operand.Imm f.imm

-- the memory at the four bytes after the opcode
abbrev pub O : Fields → Operand
O f = operand.Mem (record { base = None; index = None; scale = 1; disp = f.imm; seg = f.segment })

-- the operand's address, where it has one
abbrev pub mem_of : Operand → Mem
mem_of (operand.Mem m) = m
mem_of (operand.Reg r) = record { base = None; index = None; scale = 1; disp = 0; seg = seg.None }
mem_of (operand.Imm n) = record { base = None; index = None; scale = 1; disp = 0; seg = seg.None }

-- the address of the r/m operand alone: a segment changes nothing
abbrev pub M : Fields → Mem
M f = record (mem_of f.rm) { seg = seg.None }

-- the condition of the opcode's low four bits
abbrev pub condition : Fields → Cond
condition f = record { 0 = f.low }

-- a count of one byte
abbrev pub byte_count : Fields → Count
byte_count f = count.Imm (f.imm % 256)

-- a distance of one byte, sign-extended
abbrev pub Jb : Fields → ℕ
Jb f = sign_extended W f.imm

-- ModRM bytes: any, and with a digit in the reg field
abbrev pub modrm : Option Mode
modrm = Some AnyModRm

abbrev pub digit : ℕ → Option Mode
digit d = Some (Digit d)

unfoldable pub table : List Row
table =
    -- 00+8k, 01+8k, 02+8k, 03+8k; 04+8k ib, 05+8k iz: Alu Eb,Gb; Ev,Gv; Gb,Eb; Gv,Ev; al,ib; eax,iz
    each 8 8 (row 0x00 modrm NoImm (λ f. Alu (alu_op f.low) B (E f) (G f))) ∷
    each 8 8 (sized (row 0x01 modrm NoImm (λ f. Alu (alu_op f.low) f.size (E f) (G f)))) ∷
    each 8 8 (row 0x02 modrm NoImm (λ f. Alu (alu_op f.low) B (G f) (E f))) ∷
    each 8 8 (sized (row 0x03 modrm NoImm (λ f. Alu (alu_op f.low) f.size (G f) (E f)))) ∷
    each 8 8 (row 0x04 None Imm8 (λ f. Alu (alu_op f.low) B accumulator (I f))) ∷
    each 8 8 (sized (row 0x05 None ImmV (λ f. Alu (alu_op f.low) f.size accumulator (I f)))) ∷
    -- 40+r, 48+r: Inc, Dec Zv
    each 8 1 (sized (row 0x40 None NoImm (λ f. Inc f.size (Z f)))) ∷
    each 8 1 (sized (row 0x48 None NoImm (λ f. Dec f.size (Z f)))) ∷
    -- 50+r, 58+r: Push, Pop Zd
    each 8 1 (row 0x50 None NoImm (λ f. Push (Z f))) ∷
    each 8 1 (row 0x58 None NoImm (λ f. Pop (Z f))) ∷
    -- 68 imm32, 6A is: Push
    row 0x68 None Imm32 (λ f. Push (I f)) ∷
    row 0x6A None Imm8 (λ f. Push (operand.Imm (sign_extended W f.imm))) ∷
    -- 69 iz, 6B is: Imul3 Gv,Ev,imm
    sized (row 0x69 modrm ImmV (λ f. Imul3 f.size f.reg (E f) f.imm)) ∷
    sized (row 0x6B modrm Imm8 (λ f. Imul3 f.size f.reg (E f) (sign_extended f.size f.imm))) ∷
    -- 70+c Jb: Jcc
    each 16 1 (row 0x70 None Imm8 (λ f. Jcc (condition f) (Jb f))) ∷
    -- 80 /k ib, 81 /k iz, 83 /k is: Alu Eb; Ev; Ev
    row 0x80 modrm Imm8 (λ f. Alu (alu_op f.reg) B (E f) (I f)) ∷
    sized (row 0x81 modrm ImmV (λ f. Alu (alu_op f.reg) f.size (E f) (I f))) ∷
    sized (row 0x83 modrm Imm8 (λ f. Alu (alu_op f.reg) f.size (E f) (operand.Imm (sign_extended f.size f.imm)))) ∷
    -- 84, 85: Test Eb,Gb; Ev,Gv
    row 0x84 modrm NoImm (λ f. Test B (E f) (G f)) ∷
    sized (row 0x85 modrm NoImm (λ f. Test f.size (E f) (G f))) ∷
    -- 86, 87: Xchg Eb,Gb; Ev,Gv
    row 0x86 modrm NoImm (λ f. Xchg B (E f) (G f)) ∷
    sized (row 0x87 modrm NoImm (λ f. Xchg f.size (E f) (G f))) ∷
    -- 88, 89, 8A, 8B: Mov Eb,Gb; Ev,Gv; Gb,Eb; Gv,Ev
    row 0x88 modrm NoImm (λ f. Mov B (E f) (G f)) ∷
    sized (row 0x89 modrm NoImm (λ f. Mov f.size (E f) (G f))) ∷
    row 0x8A modrm NoImm (λ f. Mov B (G f) (E f)) ∷
    sized (row 0x8B modrm NoImm (λ f. Mov f.size (G f) (E f))) ∷
    -- 8D: Lea Gv,M
    sized (row 0x8D (Some MemoryOnly) NoImm (λ f. Lea f.size f.reg (M f))) ∷
    -- 8F /0: Pop Ed
    row 0x8F (digit 0) NoImm (λ f. Pop (E f)) ∷
    -- 90; F3 90; FC; F3 0F 1E FB; 0F 1F /0: Nop
    sized (row 0x90 None NoImm (λ f. Nop)) ∷
    with_repeats F3Needed (row 0x90 None NoImm (λ f. Nop)) ∷
    row 0xFC None NoImm (λ f. Nop) ∷
    after_0F (with_repeats F3Needed (row 0x1E (Some (Exactly 0xFB)) NoImm (λ f. Nop))) ∷
    after_0F (sized (row 0x1F (digit 0) NoImm (λ f. Nop))) ∷
    -- 91 to 97: Xchg eax,Zv
    each 7 1 (sized (row 0x91 None NoImm (λ f. Xchg f.size accumulator (operand.Reg (f.low + 1))))) ∷
    -- 98; 99: Widen; Spread
    sized (row 0x98 None NoImm (λ f. Widen f.size)) ∷
    sized (row 0x99 None NoImm (λ f. Spread f.size)) ∷
    -- A0, A1, A2, A3 O: Mov al,Ob; eax,Ov; Ob,al; Ov,eax
    row 0xA0 None Imm32 (λ f. Mov B accumulator (O f)) ∷
    sized (row 0xA1 None Imm32 (λ f. Mov f.size accumulator (O f))) ∷
    row 0xA2 None Imm32 (λ f. Mov B (O f) accumulator) ∷
    sized (row 0xA3 None Imm32 (λ f. Mov f.size (O f) accumulator)) ∷
    -- A4, A5 (F3); A6, A7 (F3, F2); AA, AB (F3); AC, AD (F3); AE, AF (F3, F2): Movs, Cmps, Stos, Lods, Scas
    with_repeats F3Allowed (row 0xA4 None NoImm (λ f. Str Movs B (plain_repeat f.repeat) f.segment)) ∷
    with_repeats F3Allowed (sized (row 0xA5 None NoImm (λ f. Str Movs f.size (plain_repeat f.repeat) f.segment))) ∷
    with_repeats F2F3Allowed (row 0xA6 None NoImm (λ f. Str Cmps B (compare_repeat f.repeat) f.segment)) ∷
    with_repeats F2F3Allowed (sized (row 0xA7 None NoImm (λ f. Str Cmps f.size (compare_repeat f.repeat) f.segment))) ∷
    with_repeats F3Allowed (row 0xAA None NoImm (λ f. Str Stos B (plain_repeat f.repeat) seg.None)) ∷
    with_repeats F3Allowed (sized (row 0xAB None NoImm (λ f. Str Stos f.size (plain_repeat f.repeat) seg.None))) ∷
    with_repeats F3Allowed (row 0xAC None NoImm (λ f. Str Lods B (plain_repeat f.repeat) f.segment)) ∷
    with_repeats F3Allowed (sized (row 0xAD None NoImm (λ f. Str Lods f.size (plain_repeat f.repeat) f.segment))) ∷
    with_repeats F2F3Allowed (row 0xAE None NoImm (λ f. Str Scas B (compare_repeat f.repeat) seg.None)) ∷
    with_repeats F2F3Allowed (sized (row 0xAF None NoImm (λ f. Str Scas f.size (compare_repeat f.repeat) seg.None))) ∷
    -- A8 ib, A9 iz: Test al; eax
    row 0xA8 None Imm8 (λ f. Test B accumulator (I f)) ∷
    sized (row 0xA9 None ImmV (λ f. Test f.size accumulator (I f))) ∷
    -- B0+r ib, B8+r iz: Mov Zb; Zv
    each 8 1 (row 0xB0 None Imm8 (λ f. Mov B (Z f) (I f))) ∷
    each 8 1 (sized (row 0xB8 None ImmV (λ f. Mov f.size (Z f) (I f)))) ∷
    -- C0 /n ib, C1 /n ib, D0 /n, D1 /n, D2 /n, D3 /n, n 0, 1, 4, 5 or 7: Shift Eb; Ev by ib, 1, CL
    row 0xC0 (Some ShiftDigit) Imm8 (λ f. Shift (shift_op f.reg) B (E f) (byte_count f)) ∷
    sized (row 0xC1 (Some ShiftDigit) Imm8 (λ f. Shift (shift_op f.reg) f.size (E f) (byte_count f))) ∷
    row 0xD0 (Some ShiftDigit) NoImm (λ f. Shift (shift_op f.reg) B (E f) count.One) ∷
    sized (row 0xD1 (Some ShiftDigit) NoImm (λ f. Shift (shift_op f.reg) f.size (E f) count.One)) ∷
    row 0xD2 (Some ShiftDigit) NoImm (λ f. Shift (shift_op f.reg) B (E f) count.Cl) ∷
    sized (row 0xD3 (Some ShiftDigit) NoImm (λ f. Shift (shift_op f.reg) f.size (E f) count.Cl)) ∷
    -- C2 iw; C3; F3 C3: Ret
    row 0xC2 None Imm16 (λ f. Ret (f.imm % 2 ^ 16)) ∷
    with_repeats F3Allowed (row 0xC3 None NoImm (λ f. Ret 0)) ∷
    -- C6 /0 ib, C7 /0 iz: Mov Eb; Ev
    row 0xC6 (digit 0) Imm8 (λ f. Mov B (E f) (I f)) ∷
    sized (row 0xC7 (digit 0) ImmV (λ f. Mov f.size (E f) (I f))) ∷
    -- C9; CC; F4; 0F 0B: Leave; Trap(3); Trap(13); Trap(6)
    row 0xC9 None NoImm (λ f. Leave) ∷
    row 0xCC None NoImm (λ f. Trap 3) ∷
    row 0xF4 None NoImm (λ f. Trap 13) ∷
    after_0F (row 0x0B None NoImm (λ f. Trap 6)) ∷
    -- E2 Jb; E3 Jb: Loop; Jecxz
    row 0xE2 None Imm8 (λ f. Loop (Jb f)) ∷
    row 0xE3 None Imm8 (λ f. Jecxz (Jb f)) ∷
    -- E8 Jd; E9 Jd, EB Jb: Call; Jmp
    row 0xE8 None Imm32 (λ f. Call f.imm) ∷
    row 0xE9 None Imm32 (λ f. Jmp f.imm) ∷
    row 0xEB None Imm8 (λ f. Jmp (Jb f)) ∷
    -- F5; F8; F9: Carry(Flip); Carry(Clear); Carry(Put)
    row 0xF5 None NoImm (λ f. Carry Flip) ∷
    row 0xF8 None NoImm (λ f. Carry Clear) ∷
    row 0xF9 None NoImm (λ f. Carry Put) ∷
    -- F6 /n, F7 /n: /0 Test with ib or iz; /2 Not, /3 Neg, /4 Mul, /5 ImulWide, /6 Div, /7 Idiv
    row 0xF6 (digit 0) Imm8 (λ f. Test B (E f) (I f)) ∷
    sized (row 0xF7 (digit 0) ImmV (λ f. Test f.size (E f) (I f))) ∷
    row 0xF6 (digit 2) NoImm (λ f. Not B (E f)) ∷
    sized (row 0xF7 (digit 2) NoImm (λ f. Not f.size (E f))) ∷
    row 0xF6 (digit 3) NoImm (λ f. Neg B (E f)) ∷
    sized (row 0xF7 (digit 3) NoImm (λ f. Neg f.size (E f))) ∷
    row 0xF6 (digit 4) NoImm (λ f. Mul B (E f)) ∷
    sized (row 0xF7 (digit 4) NoImm (λ f. Mul f.size (E f))) ∷
    row 0xF6 (digit 5) NoImm (λ f. ImulWide B (E f)) ∷
    sized (row 0xF7 (digit 5) NoImm (λ f. ImulWide f.size (E f))) ∷
    row 0xF6 (digit 6) NoImm (λ f. Div B (E f)) ∷
    sized (row 0xF7 (digit 6) NoImm (λ f. Div f.size (E f))) ∷
    row 0xF6 (digit 7) NoImm (λ f. Idiv B (E f)) ∷
    sized (row 0xF7 (digit 7) NoImm (λ f. Idiv f.size (E f))) ∷
    -- FE /0, /1; FF /0, /1: Inc, Dec Eb; Ev
    row 0xFE (digit 0) NoImm (λ f. Inc B (E f)) ∷
    row 0xFE (digit 1) NoImm (λ f. Dec B (E f)) ∷
    sized (row 0xFF (digit 0) NoImm (λ f. Inc f.size (E f))) ∷
    sized (row 0xFF (digit 1) NoImm (λ f. Dec f.size (E f))) ∷
    -- FF /2; FF /4; FF /6: CallTo; JmpTo; Push Ed
    row 0xFF (digit 2) NoImm (λ f. CallTo (E f)) ∷
    row 0xFF (digit 4) NoImm (λ f. JmpTo (E f)) ∷
    row 0xFF (digit 6) NoImm (λ f. Push (E f)) ∷
    -- 0F 40+c: Cmov Gv,Ev
    after_0F (each 16 1 (sized (row 0x40 modrm NoImm (λ f. Cmov (condition f) f.size f.reg (E f))))) ∷
    -- 0F 80+c Jd: Jcc
    after_0F (each 16 1 (row 0x80 None Imm32 (λ f. Jcc (condition f) f.imm))) ∷
    -- 0F 90+c, any reg field: Set Eb
    after_0F (each 16 1 (row 0x90 modrm NoImm (λ f. Set (condition f) (E f)))) ∷
    -- 0F A3, AB, B3, BB, mod 3 alone: Bit Ev,Gv
    after_0F (each 4 8 (sized (row 0xA3 (Some RegisterOnly) NoImm (λ f. Bit (bit_op f.low) f.size (E f) (G f))))) ∷
    -- 0F BA /4 to /7 ib: Bit Ev,ib
    after_0F (sized (row 0xBA (Some (DigitFrom 4)) Imm8 (λ f. Bit (bit_op (f.reg - 4)) f.size (E f) (I f)))) ∷
    -- 0F A4 ib, A5; AC ib, AD: DShift Ed,Gd; A5 and AD by CL
    after_0F (row 0xA4 modrm Imm8 (λ f. DShift true (E f) f.reg (byte_count f))) ∷
    after_0F (row 0xA5 modrm NoImm (λ f. DShift true (E f) f.reg count.Cl)) ∷
    after_0F (row 0xAC modrm Imm8 (λ f. DShift false (E f) f.reg (byte_count f))) ∷
    after_0F (row 0xAD modrm NoImm (λ f. DShift false (E f) f.reg count.Cl)) ∷
    -- 0F AF: Imul2 Gv,Ev
    after_0F (sized (row 0xAF modrm NoImm (λ f. Imul2 f.size f.reg (E f)))) ∷
    -- 0F B6, B7, BE, BF: Movx Gv,Eb; Gd,Ew; Gv,Eb signed; Gd,Ew signed
    after_0F (sized (row 0xB6 modrm NoImm (λ f. Movx false B f.size f.reg (E f)))) ∷
    after_0F (row 0xB7 modrm NoImm (λ f. Movx false H W f.reg (E f))) ∷
    after_0F (sized (row 0xBE modrm NoImm (λ f. Movx true B f.size f.reg (E f)))) ∷
    after_0F (row 0xBF modrm NoImm (λ f. Movx true H W f.reg (E f))) ∷
    -- 0F BC (also F3); 0F BD: Scan Gv,Ev
    after_0F (with_repeats F3Allowed (sized (row 0xBC modrm NoImm (λ f. Scan true f.size f.reg (E f) (is_some f.repeat))))) ∷
    after_0F (sized (row 0xBD modrm NoImm (λ f. Scan false f.size f.reg (E f) false))) ∷
    -- 0F C8+r: Bswap
    after_0F (each 8 1 (row 0xC8 None NoImm (λ f. Bswap f.low))) ∷
    []
