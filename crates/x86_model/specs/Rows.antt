-- The rows of moves, the stack, arithmetic, flags, conditions, jumps and calls.
use Rattle.std.specs.Prelude.{ℕ, ◌+◌, ◌-◌, ◌*◌, ◌/◌, ◌%◌, ◌^◌, ◌==◌, ◌&&◌, Bool, true, false, not, Option, Some, if◌then◌else◌, is_none, bit_and}
use Rattle.x86_inst.specs.declared.AluOp.{AluOp}
use Rattle.x86_inst.specs.declared.AluOp.TheVariants.{Adc, Sbb, Cmp}
use Rattle.x86_inst.specs.declared.CarryOp.{CarryOp}
use Rattle.x86_inst.specs.declared.CarryOp.TheVariants.{Flip, Clear, Put}
use Rattle.x86_inst.specs.declared.Size.{Size}
use Rattle.x86_inst.specs.declared.Size.TheVariants.{B, H, W}
use Rattle.x86_inst.specs.declared.Seg.{Seg}
use Rattle.x86_inst.specs.declared.Seg.TheVariants as seg
use Rattle.x86_inst.specs.declared.Mem.{Mem}
use Rattle.x86_inst.specs.declared.Operand.{Operand}
use Rattle.x86_inst.specs.declared.Operand.TheVariants as o
use Rattle.dream_words.specs.declared.machine.Regs.{Regs}
use Rattle.dream_words.specs.declared.machine.Bit.TheVariants.{Zero, One}
use Rattle.dream_words.specs.declared.machine.Flags.{Flags}
use Rattle.dream_words.specs.Words.{sign_extended, bit_of}
use Rattle.dream_words.specs.Registers.{reg_of, with_reg}
use Rattle.x86_model.specs.declared.effect.Step.{Step}
use Rattle.x86_model.specs.declared.effect.Effect.{Effect}
use Rattle.x86_model.specs.declared.effect.Go.TheVariants as go
use Rattle.x86_model.specs.Operands.{bits_of, part_of, address_of, value_of}
use Rattle.x86_model.specs.Arithmetic.{flag_if, minus_of, sum_of, sum_flags, difference_of, difference_flags, logic_flags, alu_value, alu_flags, sign_copies}
use Rattle.x86_model.specs.Effects.{done, goes, put, push, known, condition_of, reading}

-- ---- rows

-- ADD, OR, ADC, SBB, AND, SUB, XOR, CMP: the result of an operation goes to its first operand, but for Cmp
abbrev pub alu_written : AluOp → Size → Operand → ℕ → Step → Effect → Effect
alu_written Cmp size d v a e = e
alu_written _ size d v a e = put size d v a e

abbrev pub alu_done : AluOp → Size → Operand → ℕ → ℕ → Bool → Step → Effect
alu_done op size d x y c a = alu_written op size d (alu_value op (bits_of size) x y c) a (done a (alu_flags op (bits_of size) x y c))

-- Adc and Sbb read the carry
abbrev pub alu_carry : AluOp → Step → Option Bool
alu_carry Adc a = known a.flags.c
alu_carry Sbb a = known a.flags.c
alu_carry _ a = Some false

abbrev pub alu_row : AluOp → Size → Operand → Operand → Step → Effect
alu_row op size d s a = reading (alu_carry op a) a (λ c. alu_done op size d (value_of size d a) (value_of size s a) c a)

-- INC and DEC keep the carry
abbrev pub keeping_carry : Flags → Flags → Flags
keeping_carry old new = record new { c = old.c }

abbrev pub inc_row : Size → Operand → Step → Effect
inc_row size d a =
    let bits = bits_of size in let x = value_of size d a in
    put size d (sum_of bits x 1 false) a (done a (keeping_carry a.flags (sum_flags bits x 1 false)))

abbrev pub dec_row : Size → Operand → Step → Effect
dec_row size d a =
    let bits = bits_of size in let x = value_of size d a in
    put size d (difference_of bits x 1 false) a (done a (keeping_carry a.flags (difference_flags bits x 1 false)))

-- NEG: 0 minus the operand
abbrev pub neg_row : Size → Operand → Step → Effect
neg_row size d a =
    let bits = bits_of size in let x = value_of size d a in
    put size d (difference_of bits 0 x false) a (done a (difference_flags bits 0 x false))

-- PUSH: the operand is read first, so PUSH ESP pushes the old value
abbrev pub push_row : Operand → Step → Effect
push_row s a = push (value_of W s a) a (done a a.flags)

-- the registers with the stack pointer raised
abbrev pub popped : ℕ → Regs → Regs
popped n r = with_reg r 4 ((r.esp + n) % 2 ^ 32)

-- POP: ESP grows before the address of a memory destination is computed, and POP ESP leaves the word read
abbrev pub pop_row : Operand → Step → Effect
pop_row d a = let b = record a { regs = popped 4 a.regs } in put W d a.first b (done b a.flags)

-- an address at a distance from the next instruction
abbrev pub target_at : ℕ → Step → ℕ
target_at distance a = (a.next + distance) % 2 ^ 32

-- Jcc
abbrev pub jcc_row : ℕ → ℕ → Step → Effect
jcc_row n distance a = reading (condition_of n a.flags) a (λ b. if b then goes (go.To (target_at distance a)) a else done a a.flags)

-- SETcc
abbrev pub set_row : ℕ → Operand → Step → Effect
set_row n d a = reading (condition_of n a.flags) a (λ b. put B d (bit_of b) a (done a a.flags))

-- CMOVcc: the destination is written where the condition holds
abbrev pub cmov_row : ℕ → Size → ℕ → Operand → Step → Effect
cmov_row n size d s a = reading (condition_of n a.flags) a (λ b.
    if b then put size (o.Reg d) (value_of size s a) a (done a a.flags) else done a a.flags)

-- CALL: the next address is pushed
abbrev pub call_row : ℕ → Step → Effect
call_row to a = push a.next a (goes (go.CallTo to) a)

-- ---- jumps and calls

abbrev pub plain_segment : Seg → Bool
plain_segment seg.None = true
plain_segment _ = false

-- an absolute address without registers and segment
abbrev pub is_bare : Operand → Bool
is_bare (o.Reg n) = false
is_bare (o.Imm k) = false
is_bare (o.Mem m) = is_none m.base && is_none m.index && plain_segment m.seg

-- JMP r/m32: one through a bare absolute address leaves
abbrev pub jump_to_row : Operand → Step → Effect
jump_to_row s a = goes (if is_bare s then go.LeaveTo (value_of W s a) else go.To (value_of W s a)) a

-- RET: it takes the return address and so many bytes more off the stack
abbrev pub ret_row : ℕ → Step → Effect
ret_row n a = record (goes go.Return a) { regs = popped (4 + n) a.regs }

-- LEAVE: ESP is EBP, then EBP is popped
abbrev pub leave_row : Step → Effect
leave_row a = record (done a a.flags) { regs = with_reg (with_reg a.regs 4 ((a.regs.ebp + 4) % 2 ^ 32)) 5 a.first }

-- LOOP: ECX falls by 1, and the jump is taken where it isn't 0
abbrev pub loop_row : ℕ → Step → Effect
loop_row distance a = let n = minus_of 32 a.regs.ecx 1 in
    record (goes (if n == 0 then go.Next else go.To (target_at distance a)) a) { regs = with_reg a.regs 1 n }

-- JECXZ
abbrev pub jecxz_row : ℕ → Step → Effect
jecxz_row distance a = if a.regs.ecx == 0 then goes (go.To (target_at distance a)) a else done a a.flags

-- XCHG: both operands are read first
abbrev pub xchg_row : Size → Operand → Operand → Step → Effect
xchg_row size d s a = let x = value_of size d a in let y = value_of size s a in put size d y a (put size s x a (done a a.flags))

-- TEST: no operand is written
abbrev pub test_row : Size → Operand → Operand → Step → Effect
test_row size d s a = done a (logic_flags (bits_of size) (bit_and (value_of size d a) (value_of size s a)))

-- ---- extensions and the order of bytes

-- MOVZX, MOVSX
abbrev pub movx_row : Bool → Size → Size → ℕ → Operand → Step → Effect
movx_row signed from to d s a = let v = value_of from s a in
    put to (o.Reg d) (if signed then sign_extended (bits_of from) v else v) a (done a a.flags)

-- the size below
abbrev pub half_of : Size → Size
half_of W = H
half_of _ = B

-- CBW, CWDE: the accumulator is its half, extended by its sign
abbrev pub widen_row : Size → Step → Effect
widen_row size a = put size (o.Reg 0) (sign_extended (bits_of (half_of size)) (part_of (half_of size) a.regs 0)) a (done a a.flags)

-- CWD, CDQ: DX or EDX is the sign of the accumulator
abbrev pub spread_row : Size → Step → Effect
spread_row size a = put size (o.Reg 2) (sign_copies (bits_of size) (part_of size a.regs 0)) a (done a a.flags)

-- a word with its bytes in the other order
abbrev pub swapped : ℕ → ℕ
swapped v = v % 2 ^ 8 * 2 ^ 24 + v / 2 ^ 8 % 2 ^ 8 * 2 ^ 16 + v / 2 ^ 16 % 2 ^ 8 * 2 ^ 8 + v / 2 ^ 24 % 2 ^ 8

-- BSWAP
abbrev pub bswap_row : ℕ → Step → Effect
bswap_row n a = put W (o.Reg n) (swapped (reg_of a.regs n)) a (done a a.flags)

-- MOV
abbrev pub mov_row : Size → Operand → Operand → Step → Effect
mov_row size d s a = put size d (value_of size s a) a (done a a.flags)

-- LEA: the register becomes the address, taken to the size
abbrev pub lea_row : Size → ℕ → Mem → Step → Effect
lea_row size d m a = put size (o.Reg d) (address_of m a.regs 0 0) a (done a a.flags)

-- NOT
abbrev pub not_row : Size → Operand → Step → Effect
not_row size d a = put size d (2 ^ bits_of size - 1 - value_of size d a) a (done a a.flags)

-- CMC, CLC, STC
abbrev pub carry_row : CarryOp → Step → Effect
carry_row Flip a = reading (known a.flags.c) a (λ c. done a (record a.flags { c = flag_if (not c) }))
carry_row Clear a = done a (record a.flags { c = Zero })
carry_row Put a = done a (record a.flags { c = One })
